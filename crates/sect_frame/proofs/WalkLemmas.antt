-- In worlds that read the same for an entry, its search walks the same paths.
use Rattle.std.specs.Prelude.{◌≡◌, ℕ, zero, suc, nat_le, Bool, true, false, ◌&&◌, ◌==◌, cond, List, [], ◌∷◌, ◌++◌, length, slice_get, Option, Some, None, refl}
use Rattle.std.specs.List.{list_any, list_all}
use Rattle.std.specs.Option.{option_map_or, option_and_then, is_some}
use Rattle.std.proofs.Common.{sym, ◌∙◌, ap, subst, inl, inr}
use Rattle.sect_catalog.specs.Catalogue.{sections_in}
use Rattle.sect_model.specs.Data.{CourseId, ConfigId, SectionId, ReservationId, OfferingRow, ConfigRow, SubpartRow, Rule, Choice}
use Rattle.sect_model.specs.declared.held.Waiting.{Waiting}
use Rattle.sect_model.specs.declared.pick.Pick.{Pick}
use Rattle.sect_model.specs.declared.pick.Pick.TheVariants.{Course as picks_course, Reservation as picks_reservation, Config as picks_config, Section as picks_section}
use Rattle.sect_model.specs.World.{World, offering_of}
use Rattle.sect_model.specs.Choice.{config_in, subparts_of}
use Rattle.sect_model.specs.Allowed.{reservations_of}
use Rattle.sect_model.specs.Path.{Path, start, close, extend, is_complete, options_at, reservation_options, config_options, section_options}
use Rattle.sect_model.specs.Rules.{leaf_of, rules_on, first_broken}
use Rattle.sect_model.specs.Visits.{most_decisions}
use Rattle.sect_model.specs.Walk.{Walked, found_after, go_on, by_leaf, walk_options, walk_from, walk_of, walked_outcome}
use Rattle.sect_model.specs.Settle.{move_of}
use Rattle.sect_model.specs.Premises.{WorldKeeps, courses_known, sections_known, is_sized, want_fits}
use Rattle.sect_model.specs.Kept.{KeptWorld, entry_fits}
use Rattle.sect_model.specs.Freer.{given_up, has_section}
use Rattle.sect_model.proofs.Members
use Rattle.sect_model.proofs.Members.{Member, both, both-left, both-right, not_both, known}
use Rattle.sect_model.proofs.CheckedLemmas.{found-differ}
use Rattle.sect_model.proofs.StageLemmas.{open_path, begins, pick_fits, stage_fits, options-fit}
use Rattle.sect_model.proofs.PathLemmas.{begins-more}
use Rattle.sect_model.proofs.StandLemmas.{stands}
use Rattle.sect_model.proofs.WalkLemmas.{walks-answer}
use Rattle.sect_model.proofs.WantLemmas.{is_own}
use Rattle.sect_model.proofs.FreerLemmas.{leaves, within-row}
use Rattle.sect_model.proofs.FreerSettle.{entry-move-fits}
use Rattle.sect_frame.specs.Frame.{ReadsSame, ReadsSameOutcome}
use Rattle.sect_frame.proofs.ReadLemmas.{course-same, reservation-same, config-same, section-same, subparts-same, reservations-same, there}

-- a decision of an entry is tested in the world in which its course is given up
leaf-at : (w : World) (e : Waiting) (c : Option CourseId) (r : Option (Option ReservationId)) (g : Option ConfigId) (ss : List SectionId) (pick : Pick)
    → leaf_of w (move_of w e) (open_path [] c r g ss) pick ≡ first_broken (rules_on (given_up w e) e.student e.want (open_path [] c r g ss) pick)
unfolding leaf_of
leaf-at w e c r g ss pick = ap (λ u. first_broken (rules_on u e.student e.want (open_path [] c r g ss) pick)) (leaves w e)

leaf-same : (w v : World) (e : Waiting) (c : Option CourseId) (r : Option (Option ReservationId)) (g : Option ConfigId) (ss : List SectionId) (pick : Pick)
    → rules_on (given_up v e) e.student e.want (open_path [] c r g ss) pick ≡ rules_on (given_up w e) e.student e.want (open_path [] c r g ss) pick
    → leaf_of v (move_of v e) (open_path [] c r g ss) pick ≡ leaf_of w (move_of w e) (open_path [] c r g ss) pick
leaf-same w v e c r g ss pick same = leaf-at v e c r g ss pick ∙ ap first_broken same ∙ sym (leaf-at w e c r g ss pick)

by_leaf-same : (l : Option (Rule × ℕ)) (whole : Bool) (done : List Choice) (a b later : Walked) → (whole ≡ false → b ≡ a) → by_leaf l whole done b later ≡ by_leaf l whole done a later
by_leaf-same (Some leaf) whole done a b later h = refl
by_leaf-same None true done a b later h = refl
by_leaf-same None false done a b later h = ap (λ r. go_on false done r later) (h refl)

-- the first sections of the subparts stand in them
begun : (ps : List SubpartRow) (ss : List SectionId) → begins ps ss ≡ true → (s : SectionId) → Member ss s → list_any (λ r. r.id.0 == s.0) (sections_in ps) ≡ true
begun ps [] h s m = absurd m
begun [] (t ∷ ts) h s m = absurd (not_both false h refl)
begun (p ∷ ps) (t ∷ ts) h s (inl e) =
    let a = Members.any-at (λ r. r.id.0 == s.0) p.sections (subst (λ x. list_any (λ r. r.id.0 == x.0) p.sections ≡ true) e (both-left _ (begins ps ts) h)) in
    Members.any-of (λ r. r.id.0 == s.0) (p.sections ++ sections_in ps) a.0 (Members.member-left p.sections (sections_in ps) a.0 a.1) a.2
begun (p ∷ ps) (t ∷ ts) h s (inr m) =
    let a = Members.any-at (λ r. r.id.0 == s.0) (sections_in ps) (begun ps ts (both-right (list_any (λ r. r.id.0 == t.0) p.sections) (begins ps ts) h) s m) in
    Members.any-of (λ r. r.id.0 == s.0) (p.sections ++ sections_in ps) a.0 (Members.member-right p.sections (sections_in ps) a.0 a.1) a.2

begins-none : (ps : List SubpartRow) → begins ps [] ≡ true
begins-none [] = refl
begins-none (p ∷ ps) = refl

module _ (w v : World) (e : Waiting) where
  -- a decision breaks the same rule, leads on to the same path, and what lies below it is the same
  pub record SamePick (a b : Path → Walked) (p : Path) (pick : Pick) : Type 0 where
    pub leaf : leaf_of v (move_of v e) p pick ≡ leaf_of w (move_of w e) p pick
    pub next : extend v p pick ≡ extend w p pick
    pub below : is_complete (move_of w e) (extend w p pick) ≡ false → b (extend w p pick) ≡ a (extend w p pick)

  options-same : (a b : Path → Walked) (p : Path) (test : Pick → Bool) → ((pick : Pick) → test pick ≡ true → SamePick a b p pick)
      → (picks : List Pick) → list_all test picks ≡ true → walk_options v (move_of v e) b p picks ≡ walk_options w (move_of w e) a p picks
  options-same a b p test h [] k = refl
  options-same a b p test h (pick ∷ picks) k =
      let s = h pick (both-left (test pick) (list_all test picks) k) in
      (λ i. by_leaf (s.leaf i) (is_complete (move_of v e) (s.next i)) (s.next i).done (b (s.next i))
      (options-same a b p test h picks (both-right (test pick) (list_all test picks) k) i))
      ∙ by_leaf-same (leaf_of w (move_of w e) p pick) (is_complete (move_of w e) (extend w p pick)) (extend w p pick).done
      (a (extend w p pick)) (b (extend w p pick)) (walk_options w (move_of w e) a p picks) s.below

  module _ (k : KeptWorld w) (fits : entry_fits w e ≡ true) (same : ReadsSame w v e) where
    known-courses : courses_known w e.want ≡ true
    known-courses = both-left _ (sections_known w e.want) (both-left _ (is_sized e.want) (both-right _ (want_fits w e.want) fits))

    -- each option fits where it stands
    fit : (c : Option CourseId) (r : Option (Option ReservationId)) (g : Option ConfigId) (ss : List SectionId) → stage_fits w (Some e.want) c r g ss ≡ true
        → list_all (pick_fits w e.want c r g ss) (options_at w (move_of w e) (open_path [] c r g ss)) ≡ true
    fit = options-fit w (found-differ w k.reservations_differ) e.want known-courses

    module _ (c : CourseId) (o : OfferingRow) (wanted : list_any (λ x. x.0 == c.0) e.want.courses ≡ true) (its : offering_of w c ≡ Some o) where
      asked : list_any (λ x. x.0 == c.0) e.want.courses && is_some (offering_of w c) ≡ true
      asked = both (list_any (λ x. x.0 == c.0) e.want.courses) (is_some (offering_of w c)) wanted (ap is_some its)

      its-there : offering_of v c ≡ offering_of w c
      its-there = there (given_up w e) (given_up v e) e.student e.want same.forth same.back c o wanted its ∙ sym its

      parts-same : (g : ConfigId) → subparts_of v c g ≡ subparts_of w c g
      parts-same = subparts-same (given_up w e) (given_up v e) e.student e.want same.forth same.back c o wanted its

      module _ (r : Option ReservationId) (own : is_own w o r ≡ true) where
        own-there : option_map_or (λ o. is_own w o r) (offering_of w c) false ≡ true
        own-there = ap (λ x. option_map_or (λ o. is_own w o r) x false) its ∙ own

        module _ (g : ConfigId) (cfg : ConfigRow) (config : config_in o g ≡ Some cfg) where
          config-there : Member o.configs cfg × (cfg.id.0 == g.0 ≡ true)
          config-there = Members.find-member (λ x. x.id.0 == g.0) o.configs cfg config

          its-parts : subparts_of w c g ≡ cfg.subparts
          its-parts = ap (λ x. option_map_or (λ g. g.subparts) (option_and_then (λ o. config_in o g) x) []) its ∙ ap (λ x. option_map_or (λ g. g.subparts) x []) config

          own-sections : (ss : List SectionId) → begins cfg.subparts ss ≡ true → (s : SectionId) → Member ss s → has_section o s ≡ true
          own-sections ss h s m = within-row o.configs cfg s config-there.0 (begun cfg.subparts ss h s m)

          fits-here : (ss : List SectionId) → begins cfg.subparts ss ≡ true → stage_fits w (Some e.want) (Some c) (Some r) (Some g) ss ≡ true
          fits-here ss h =
              both _ _ (both _ _ asked own-there)
              (ap (λ x. option_map_or (λ cfg. begins cfg.subparts ss) (option_and_then (λ o. config_in o g) x) false) its
              ∙ ap (λ x. option_map_or (λ cfg. begins cfg.subparts ss) x false) config ∙ h)

          abbrev at : List SectionId → Path
          at ss = open_path [] (Some c) (Some r) (Some g) ss

          abbrev closed : List SectionId → Path
          closed ss = close (at ss) (Some c) (Some r) (Some g)

          -- the walks below a path on which a section is due
          abbrev SameAt : ℕ → Type 0
          SameAt n = (ss : List SectionId) → begins cfg.subparts ss ≡ true → walk_from v (move_of v e) n (at ss) ≡ walk_from w (move_of w e) n (at ss)

          -- after one section more the path is whole, or the walks go on
          by-whole : (n : ℕ) → SameAt n → (ss : List SectionId) → begins cfg.subparts ss ≡ true → (b : Bool) → is_complete (move_of w e) (cond b (closed ss) (at ss)) ≡ false
              → walk_from v (move_of v e) n (cond b (closed ss) (at ss)) ≡ walk_from w (move_of w e) n (cond b (closed ss) (at ss))
          by-whole n ih ss h true due = absurd (not_both true refl due)
          by-whole n ih ss h false due = ih ss h

          pick-section : (n : ℕ) → SameAt n → (ss : List SectionId) → begins cfg.subparts ss ≡ true
              → (pick : Pick) → pick_fits w e.want (Some c) (Some r) (Some g) ss pick ≡ true → SamePick (walk_from w (move_of w e) n) (walk_from v (move_of v e) n) (at ss) pick
          pick-section n ih ss h (picks_course x) t = absurd (not_both false t refl)
          pick-section n ih ss h (picks_reservation x) t = absurd (not_both false t refl)
          pick-section n ih ss h (picks_config x) t = absurd (not_both false t refl)
          pick-section n ih ss h (picks_section s) t =
              let more : begins cfg.subparts (ss ++ s ∷ []) ≡ true = begins-more cfg.subparts ss s h
              (ap (λ ps. option_map_or (λ p. list_any (λ row. row.id.0 == s.0) p.sections) (slice_get ps (length ss)) false) (sym its-parts) ∙ t) in
              record {
                leaf = leaf-same w v e (Some c) (Some r) (Some g) ss (picks_section s)
                    (section-same (given_up w e) (given_up v e) e.student e.want same.forth same.back c o wanted its r own g ss s
                    (own-sections ss h) (own-sections (ss ++ s ∷ []) more s (Members.member-right ss (s ∷ []) s (inl refl))));
                next = λ i. cond (nat_le (length (parts-same g i)) (length (ss ++ s ∷ []))) (closed (ss ++ s ∷ [])) (at (ss ++ s ∷ []));
                below = by-whole n ih (ss ++ s ∷ []) more (nat_le (length (subparts_of w c g)) (length (ss ++ s ∷ [])));
              }

          walk-sections : (n : ℕ) → SameAt n
          walk-sections zero ss h = refl
          walk-sections (suc n) ss h =
              (λ i. walk_options v (move_of v e) (walk_from v (move_of v e) n) (at ss) (section_options (slice_get (parts-same g i) (length ss))))
              ∙ options-same (walk_from w (move_of w e) n) (walk_from v (move_of v e) n) (at ss) (pick_fits w e.want (Some c) (Some r) (Some g) ss)
              (pick-section n (walk-sections n) ss h)
              (options_at w (move_of w e) (at ss)) (fit (Some c) (Some r) (Some g) ss (fits-here ss h))

        walk-configs : (n : ℕ) → walk_from v (move_of v e) n (open_path [] (Some c) (Some r) None []) ≡ walk_from w (move_of w e) n (open_path [] (Some c) (Some r) None [])
        walk-configs zero = refl
        walk-configs (suc n) =
            (λ i. walk_options v (move_of v e) (walk_from v (move_of v e) n) (open_path [] (Some c) (Some r) None []) (config_options (its-there i)))
            ∙ options-same (walk_from w (move_of w e) n) (walk_from v (move_of v e) n) (open_path [] (Some c) (Some r) None []) (pick_fits w e.want (Some c) (Some r) None []) by_pick
            (options_at w (move_of w e) (open_path [] (Some c) (Some r) None [])) (fit (Some c) (Some r) None [] (both _ _ asked own-there))
          where
            by_pick : (pick : Pick) → pick_fits w e.want (Some c) (Some r) None [] pick ≡ true → SamePick (walk_from w (move_of w e) n) (walk_from v (move_of v e) n) (open_path [] (Some c) (Some r) None []) pick
            by_pick (picks_course x) t = absurd (not_both false t refl)
            by_pick (picks_reservation x) t = absurd (not_both false t refl)
            by_pick (picks_section x) t = absurd (not_both false t refl)
            by_pick (picks_config g) t =
                let cfg = known (config_in o g) (ap (λ x. is_some (option_and_then (λ o. config_in o g) x)) (sym its) ∙ t) in
                let found = Members.find-member (λ x. x.id.0 == g.0) o.configs cfg.0 cfg.1 in
                record {
                  leaf = leaf-same w v e (Some c) (Some r) None [] (picks_config g)
                      (config-same (given_up w e) (given_up v e) e.student e.want same.forth same.back c o wanted its r own g
                      (Members.any-of (λ x. x.id.0 == g.0) o.configs cfg.0 found.0 found.1));
                  next = refl;
                  below = λ due. walk-sections g cfg.0 cfg.1 n [] (begins-none cfg.0.subparts);
                }

      walk-reservations : (n : ℕ) → walk_from v (move_of v e) n (open_path [] (Some c) None None []) ≡ walk_from w (move_of w e) n (open_path [] (Some c) None None [])
      walk-reservations zero = refl
      walk-reservations (suc n) =
          ap (walk_options v (move_of v e) (walk_from v (move_of v e) n) (open_path [] (Some c) None None [])) same-reserved
          ∙ options-same (walk_from w (move_of w e) n) (walk_from v (move_of v e) n) (open_path [] (Some c) None None []) (pick_fits w e.want (Some c) None None []) by_pick
          (options_at w (move_of w e) (open_path [] (Some c) None None [])) (fit (Some c) None None [] asked)
        where
          same-reserved : options_at v (move_of v e) (open_path [] (Some c) None None []) ≡ options_at w (move_of w e) (open_path [] (Some c) None None [])
          same-reserved =
              (λ i. reservation_options (option_map_or (λ o. reservations_of v o.id) (there (given_up w e) (given_up v e) e.student e.want same.forth same.back c o wanted its i) []))
              ∙ ap reservation_options (reservations-same (given_up w e) (given_up v e) e.student e.want same.forth same.back c o wanted its)
              ∙ (λ i. reservation_options (option_map_or (λ o. reservations_of w o.id) (sym its i) []))

          by_pick : (pick : Pick) → pick_fits w e.want (Some c) None None [] pick ≡ true → SamePick (walk_from w (move_of w e) n) (walk_from v (move_of v e) n) (open_path [] (Some c) None None []) pick
          by_pick (picks_course x) t = absurd (not_both false t refl)
          by_pick (picks_config x) t = absurd (not_both false t refl)
          by_pick (picks_section x) t = absurd (not_both false t refl)
          by_pick (picks_reservation r) t =
              let own : is_own w o r ≡ true = ap (λ x. option_map_or (λ o. is_own w o r) x false) (sym its) ∙ t in
              record {
                leaf = leaf-same w v e (Some c) None None [] (picks_reservation r)
                    (reservation-same (given_up w e) (given_up v e) e.student e.want same.forth same.back c o wanted its r own);
                next = refl;
                below = λ due. walk-configs r own n;
              }

    walk-courses : (n : ℕ) → walk_from v (move_of v e) n start ≡ walk_from w (move_of w e) n start
    walk-courses zero = refl
    walk-courses (suc n) =
        options-same (walk_from w (move_of w e) n) (walk_from v (move_of v e) n) start (pick_fits w e.want None None None []) by_pick
        (options_at w (move_of w e) start) (fit None None None [] refl)
      where
        by_pick : (pick : Pick) → pick_fits w e.want None None None [] pick ≡ true → SamePick (walk_from w (move_of w e) n) (walk_from v (move_of v e) n) start pick
        by_pick (picks_reservation x) t = absurd (not_both false t refl)
        by_pick (picks_config x) t = absurd (not_both false t refl)
        by_pick (picks_section x) t = absurd (not_both false t refl)
        by_pick (picks_course c) t =
            let wanted : list_any (λ x. x.0 == c.0) e.want.courses ≡ true = both-left _ (is_some (offering_of w c)) t in
            let o = known (offering_of w c) (both-right (list_any (λ x. x.0 == c.0) e.want.courses) _ t) in
            record {
              leaf = leaf-same w v e None None None [] (picks_course c)
                  (course-same (given_up w e) (given_up v e) e.student e.want same.forth same.back c o.0 wanted o.1 start);
              next = refl;
              below = λ due. walk-reservations c o.0 wanted o.1 n;
            }

    walk-same : walk_of v (move_of v e) ≡ walk_of w (move_of w e)
    walk-same = ap (cond (is_complete (move_of w e) start) (found_after 0 [])) (walk-courses (most_decisions (move_of w e)))

pub same-outcome : ReadsSameOutcome
same-outcome w v e k kv fits fits-v same budget =
    walks-answer w (move_of w e) budget (keeps w k) (stands w (move_of w e) (entry-move-fits w e fits))
    ∙ ap (walked_outcome budget) (sym (walk-same w v e k fits same))
    ∙ sym (walks-answer v (move_of v e) budget (keeps v kv) (stands v (move_of v e) (entry-move-fits v e fits-v)))
  where
    keeps : (u : World) → KeptWorld u → WorldKeeps u
    keeps u k = record { checked = k.rows_pass; reservations_differ = k.reservations_differ }
