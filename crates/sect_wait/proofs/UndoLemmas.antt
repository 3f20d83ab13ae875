-- One change of a queue more, or one less: what can be taken back, and what is undone.
use Rattle.std.specs.Prelude.{◌≡◌, ℕ, zero, suc, ◌+◌, ◌-◌, ◌<◌, ◌≤◌, ◌==◌, List, [], ◌∷◌, ◌++◌, length, take, drop, insert, find, Option, Some, None, refl}
use Rattle.std.specs.List.{position_or_len}
use Rattle.std.specs.Option.{is_some, option_map, option_to_list}
use Rattle.std.proofs.Common.{sym, ◌∙◌, ap, subst, arith, length-append, append_assoc}
use Rattle.std.proofs.Math.Seq.{take-append_seam, drop-append_seam}
use Rattle.std.proofs.Math.ListN.{drop_of_length-le}
use Rattle.std.proofs.lemmas.List.{take-append-le, drop-append-le, append-nil}
use Rattle.sect_model.specs.declared.held.Waiting.{Waiting}
use Rattle.sect_model.specs.Kept.{tickets_rise}
use Rattle.sect_model.specs.Settle.{without}
use Rattle.sect_model.proofs.ListLemmas.{any-find}
use Rattle.sect_model.proofs.TicketLemmas.{rise-join}
use Rattle.sect_roster.proofs.PlaceLemmas.{put-one-back, place-left}
use Rattle.sect_wait.specs.declared.back.QueueBack.{QueueBack}
use Rattle.sect_wait.specs.declared.back.QueueBack.TheVariants.{Joined, Left}
use Rattle.sect_wait.specs.Queued.{Queued, RoomedQueue, IsQueue, left}
use Rattle.sect_wait.specs.Undo.{taken_back, left_back, undone, Ready, AllReady, Since, Undoable}
use Rattle.sect_wait.proofs.QueueLemmas.{one-ticket, without-none}

-- ---- room

trans : (a b c : ℕ) → a ≤ b → b ≤ c → a ≤ c
trans a b c h i = omega (arith, h, i)

-- more room serves too
pub ready-roomier : (m n : ℕ) (q : Queued) (bs : List QueueBack) → m ≤ n → AllReady m q bs → AllReady n q bs
ready-roomier m n q [] le h = tt
ready-roomier m n q (b ∷ bs) le h = (
  ready-roomier m n q bs le h.0,
  record { queue = h.1.queue; room = trans (length (taken_back (undone q bs) b).entries) m n h.1.room le; stands = h.1.stands },
)

-- the same lists
same-lists : (n next : ℕ) (es fs : List Waiting) (bs cs : List QueueBack) → fs ≡ es → cs ≡ bs → AllReady n (record { entries = es; next = next }) bs
    → AllReady n (record { entries = fs; next = next }) cs
same-lists n next es fs bs cs e f h = subst (λ ds. AllReady n (record { entries = fs; next = next }) ds) (sym f) (subst (λ gs. AllReady n (record { entries = gs; next = next }) bs) (sym e) h)

pub keep-undoable : (m n : ℕ) (q : Queued) (bs cs : List QueueBack) (es : List Waiting) → es ≡ q.entries → cs ≡ bs → m ≤ n → AllReady m q bs
    → AllReady n (record { entries = es; next = q.next }) cs
keep-undoable m n q bs cs es same recorded le h = same-lists n q.next q.entries es bs cs same recorded (ready-roomier m n q bs le h)

-- ---- the last change

pub undone-last : (q : Queued) (bs : List QueueBack) (b : QueueBack) → undone q (bs ++ b ∷ []) ≡ undone (taken_back q b) bs
undone-last q [] b = refl
undone-last q (d ∷ bs) b = ap (λ p. taken_back p d) (undone-last q bs b)

pub ready-more : (n : ℕ) (q : Queued) (bs : List QueueBack) (b : QueueBack) → AllReady n (taken_back q b) bs → Ready n q b → AllReady n q (bs ++ b ∷ [])
ready-more n q [] b h r = (tt, r)
ready-more n q (d ∷ bs) b h r = (ready-more n q bs b h.0 r, subst (λ p. Ready n p d) (sym (undone-last q bs b)) h.1)

pub ready-last : (n : ℕ) (q : Queued) (bs : List QueueBack) (b : QueueBack) → AllReady n q (bs ++ b ∷ []) → Ready n q b
ready-last n q [] b h = h.1
ready-last n q (d ∷ bs) b h = ready-last n q bs b h.0

pub ready-rest : (n : ℕ) (q : Queued) (bs : List QueueBack) (b : QueueBack) → AllReady n q (bs ++ b ∷ []) → AllReady n (taken_back q b) bs
ready-rest n q [] b h = tt
ready-rest n q (d ∷ bs) b h = (ready-rest n q bs b h.0, subst (λ p. Ready n p d) (undone-last q bs b) h.1)

-- ---- an entry that joined

but-last : (es : List Waiting) (e : Waiting) → take (length (es ++ e ∷ []) - 1) (es ++ e ∷ []) ≡ es
but-last es e = ap (λ n. take n (es ++ e ∷ [])) (front (length es) (length (es ++ e ∷ [])) (length-append es (e ∷ []))) ∙ take-append_seam es (e ∷ [])
  where
    front : (m n : ℕ) → n ≡ m + 1 → n - 1 ≡ m
    front m n h = omega (arith, h)

less-one : (n : ℕ) → n + 1 - 1 ≡ n
less-one n = omega arith

-- the queue with an entry behind, and the change taken back
join-back : (q : Queued) (e : Waiting) → taken_back (record { entries = q.entries ++ e ∷ []; next = q.next + 1 }) Joined ≡ q
join-back q e = λ i. record { entries = but-last q.entries e i; next = less-one q.next i }

pub join-undoable : (m n : ℕ) (q : Queued) (e : Waiting) (bs cs : List QueueBack) (es : List Waiting) → IsQueue q
    → es ≡ q.entries ++ e ∷ [] → cs ≡ bs ++ Joined ∷ [] → m ≤ n → length q.entries ≤ m → AllReady m q bs → AllReady n (record { entries = es; next = q.next + 1 }) cs
join-undoable m n q e bs cs es is_queue same recorded le few h =
    let next : Queued = record { entries = q.entries ++ e ∷ []; next = q.next + 1 } in
    let back = sym (join-back q e) in
    let one : Ready n next Joined = record {
      queue = subst IsQueue back is_queue;
      room = subst (λ p. length p.entries ≤ n) back (trans (length q.entries) m n few le);
      stands = tt;
    } in
    let all : AllReady n next (bs ++ Joined ∷ []) = ready-more n next bs Joined (subst (λ p. AllReady n p bs) back (ready-roomier m n q bs le h)) one in
    same-lists n (q.next + 1) (q.entries ++ e ∷ []) es (bs ++ Joined ∷ []) cs same recorded all

-- the next ticket is above all
pub join-queue : (q : Queued) (e : Waiting) (es : List Waiting) → IsQueue q → e.ticket ≡ q.next → es ≡ q.entries ++ e ∷ [] → IsQueue (record { entries = es; next = q.next + 1 })
join-queue q e es k ticket same = record {
  in_order = ap (λ fs. tickets_rise fs (q.next + 1)) same ∙ ap (λ n. tickets_rise (q.entries ++ e ∷ []) (n + 1)) (sym ticket)
      ∙ rise-join q.entries e (ap (tickets_rise q.entries) ticket ∙ k.in_order);
  first = one-more q.next k.first;
}
  where
    one-more : (n : ℕ) → 1 ≤ n → 1 ≤ n + 1
    one-more n h = omega (arith, h)

-- ---- an entry that left

-- the entry stands again where it stood
leave-back : (q : Queued) (ticket : ℕ) (e : Waiting) → IsQueue q → find (λ f. f.ticket == ticket) q.entries ≡ Some e
    → taken_back (record { entries = without q.entries ticket; next = q.next }) (Left (position_or_len (λ f. f.ticket == ticket) q.entries) e) ≡ q
leave-back q ticket e k found = λ i. record { entries = back i; next = q.next }
  where
    back : insert (without q.entries ticket) (position_or_len (λ f. f.ticket == ticket) q.entries) e ≡ q.entries
    back = put-one-back (λ f. f.ticket == ticket) q.entries e (one-ticket q.entries q.next ticket k.in_order (ap is_some found)) (sym found)

pub leave-undoable : (n : ℕ) (q : Queued) (ticket : ℕ) (bs : List QueueBack) (o : Option Waiting) → IsQueue q → find (λ f. f.ticket == ticket) q.entries ≡ o
    → length q.entries ≤ n → AllReady n q bs → AllReady n (left q ticket) (bs ++ option_to_list (option_map (Left (position_or_len (λ f. f.ticket == ticket) q.entries)) o))
leave-undoable n q ticket bs None k found few h =
    same-lists n q.next q.entries (without q.entries ticket) bs (bs ++ []) (without-none q.entries ticket (sym (any-find (λ f. f.ticket == ticket) q.entries) ∙ ap is_some found)) (append-nil bs) h
leave-undoable n q ticket bs (Some e) k found few h =
    let b : QueueBack = Left (position_or_len (λ f. f.ticket == ticket) q.entries) e in
    let back = sym (leave-back q ticket e k found) in
    ready-more n (left q ticket) bs b (subst (λ p. AllReady n p bs) back h) (record {
      queue = subst IsQueue back k;
      room = subst (λ p. length p.entries ≤ n) back few;
      stands = place-left (λ f. f.ticket == ticket) q.entries (one-ticket q.entries q.next ticket k.in_order (ap is_some found));
    })

-- the same, of a queue that was left so
pub left-undoable : (q p : RoomedQueue) (ticket : ℕ) (bs cs : List QueueBack) → IsQueue q.queue → length q.queue.entries ≤ q.room
    → p.queue ≡ left q.queue ticket → p.room ≡ q.room → cs ≡ bs ++ left_back q.queue ticket → Undoable q bs → Undoable p cs
left-undoable q p ticket bs cs k few is room recorded h =
    subst (λ n. AllReady n p.queue cs) (sym room) (subst (λ v. AllReady q.room v cs) (sym is) (subst (AllReady q.room (left q.queue ticket)) (sym recorded)
    (leave-undoable q.room q.queue ticket bs (find (λ f. f.ticket == ticket) q.queue.entries) k refl few h)))

-- ---- what changes led to

pub since-none : (q p : Queued) (bs cs : List QueueBack) → p ≡ q → cs ≡ bs → Since q bs p cs
since-none q p bs cs same recorded = record { more = []; recorded = recorded ∙ sym (append-nil bs); led = same }

pub since-joined : (q p : Queued) (e : Waiting) (bs cs : List QueueBack) → p ≡ record { entries = q.entries ++ e ∷ []; next = q.next + 1 } → cs ≡ bs ++ Joined ∷ [] → Since q bs p cs
since-joined q p e bs cs is recorded = record { more = Joined ∷ []; recorded = recorded; led = ap (λ v. taken_back v Joined) is ∙ join-back q e }

pub since-left : (q p : Queued) (ticket : ℕ) (bs cs : List QueueBack) → IsQueue q → p ≡ left q ticket → cs ≡ bs ++ left_back q ticket → Since q bs p cs
since-left q p ticket bs cs k is recorded = by_entry (find (λ f. f.ticket == ticket) q.entries) refl recorded
  where
    by_entry : (o : Option Waiting) → find (λ f. f.ticket == ticket) q.entries ≡ o
        → cs ≡ bs ++ option_to_list (option_map (Left (position_or_len (λ f. f.ticket == ticket) q.entries)) o) → Since q bs p cs
    by_entry None found h =
        let none = without-none q.entries ticket (sym (any-find (λ f. f.ticket == ticket) q.entries) ∙ ap is_some found) in
        since-none q p bs cs (is ∙ (λ i. record { entries = none i; next = q.next })) (h ∙ append-nil bs)
    by_entry (Some e) found h = record {
      more = Left (position_or_len (λ f. f.ticket == ticket) q.entries) e ∷ [];
      recorded = h;
      led = ap (λ v. taken_back v (Left (position_or_len (λ f. f.ticket == ticket) q.entries) e)) is ∙ leave-back q ticket e k found;
    }

undone-append : (q : Queued) (bs cs : List QueueBack) → undone q (bs ++ cs) ≡ undone (undone q cs) bs
undone-append q [] cs = refl
undone-append q (b ∷ bs) cs = ap (λ p. taken_back p b) (undone-append q bs cs)

-- one after the other
pub since-joins : (q p r : Queued) (bs cs ds : List QueueBack) → Since q bs p cs → Since p cs r ds → Since q bs r ds
since-joins q p r bs cs ds a b = record {
  more = a.more ++ b.more;
  recorded = b.recorded ∙ ap (λ xs. xs ++ b.more) a.recorded ∙ append_assoc bs a.more b.more;
  led = undone-append r a.more b.more ∙ ap (λ v. undone v a.more) b.led ∙ a.led;
}

pub since-undone : (q p : Queued) (bs cs : List QueueBack) → Since q bs p cs → undone p (drop (length bs) cs) ≡ q
since-undone q p bs cs s = ap (λ ds. undone p (drop (length bs) ds)) s.recorded ∙ ap (undone p) (drop-append_seam bs s.more) ∙ s.led

pub since-recorded : (q p : Queued) (bs cs : List QueueBack) → Since q bs p cs → take (length bs) cs ≡ bs
since-recorded q p bs cs s = ap (take (length bs)) s.recorded ∙ take-append_seam bs s.more

-- ---- taking changes back, one after the other

-- so many changes are left, and taking back those behind the first `len` of them leads to the same
pub record Going (len : ℕ) (from : RoomedQueue) (bs : List QueueBack) (q : RoomedQueue) (cs : List QueueBack) : Type 0 where
  pub ready : AllReady q.room q.queue cs
  pub led : undone q.queue (drop len cs) ≡ undone from.queue (drop len bs)
  pub kept : take len cs ≡ take len bs

pub going-on : (len : ℕ) (from : RoomedQueue) (bs : List QueueBack) (q p : RoomedQueue) (cs ds : List QueueBack) (b : QueueBack) → Going len from bs q cs
    → cs ≡ ds ++ b ∷ [] → len < length cs → p.queue ≡ taken_back q.queue b → p.room ≡ q.room → Going len from bs p ds
going-on len from bs q p cs ds b g last more back room = record {
  ready = subst (λ n. AllReady n p.queue ds) (sym room) (subst (λ v. AllReady q.room v ds) (sym back) (ready-rest q.room q.queue ds b ready));
  led = ap (λ v. undone v (drop len ds)) back ∙ sym (undone-last q.queue (drop len ds) b)
      ∙ ap (undone q.queue) (sym (drop-append-le len ds (b ∷ []) few) ∙ ap (drop len) (sym last)) ∙ g.led;
  kept = sym (take-append-le len ds (b ∷ []) few) ∙ ap (take len) (sym last) ∙ g.kept;
}
  where
    ready : AllReady q.room q.queue (ds ++ b ∷ [])
    ready = subst (AllReady q.room q.queue) last g.ready

    few : len ≤ length ds
    few = omega (arith, more, ap length last, length-append ds (b ∷ []))

pub going-last : (len : ℕ) (from : RoomedQueue) (bs : List QueueBack) (q : RoomedQueue) (cs ds : List QueueBack) (b : QueueBack) → Going len from bs q cs → cs ≡ ds ++ b ∷ []
    → Ready q.room q.queue b
going-last len from bs q cs ds b g last = ready-last q.room q.queue ds b (subst (AllReady q.room q.queue) last g.ready)

take_all : {X : Type 0} (n : ℕ) (xs : List X) → length xs ≤ n → take n xs ≡ xs
take_all zero [] few = refl
take_all (suc n) [] few = refl
take_all zero (x ∷ xs) few = absurd (omega (arith, few))
take_all (suc n) (x ∷ xs) few = ap (λ ys. x ∷ ys) (take_all n xs (omega (arith, few)))

pub gone : (len : ℕ) (from : RoomedQueue) (bs : List QueueBack) (q : RoomedQueue) (cs : List QueueBack) → Going len from bs q cs → length cs ≤ len → q.queue ≡ undone from.queue (drop len bs)
gone len from bs q cs g few = ap (undone q.queue) (sym (drop_of_length-le cs few)) ∙ g.led

pub gone-kept : (len : ℕ) (from : RoomedQueue) (bs : List QueueBack) (q : RoomedQueue) (cs : List QueueBack) → Going len from bs q cs → length cs ≤ len → cs ≡ take len bs
gone-kept len from bs q cs g few = sym (take_all len cs few) ∙ g.kept
