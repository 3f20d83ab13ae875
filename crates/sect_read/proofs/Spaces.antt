-- No word of a command, a reply or a row has a space, so the words of their texts are these words.
use Rattle.std.proofs.Common.{◌≡◌, ℕ, ◌==◌, Bool, true, false, [], ◌∷◌, ◌++◌, Option, None, Some, refl, arith, decimal}
use Rattle.std.specs.Prelude.{codes}
use Rattle.sect_base.specs.declared.limit.Id.{Id}
use Rattle.sect_catalog.specs.declared.row.CatalogFault.{CatalogFault}
use Rattle.sect_catalog.specs.declared.row.CatalogFault.TheVariants as catalog
use Rattle.sect_people.specs.declared.row.RequestFault.{RequestFault}
use Rattle.sect_people.specs.declared.row.RequestFault.TheVariants as request
use Rattle.sect_reserve.specs.declared.row.ReserveFault.{ReserveFault}
use Rattle.sect_reserve.specs.declared.row.ReserveFault.TheVariants as reserve
use Rattle.sect_command.specs.declared.command.Command.{Command}
use Rattle.sect_command.specs.declared.reply.Reply.{Reply}
use Rattle.sect_command.specs.declared.reply.Reply.TheVariants as replies
use Rattle.sect_command.specs.declared.reply.Line.{Line}
use Rattle.sect_command.specs.declared.reply.LineResult.{LineResult}
use Rattle.sect_command.specs.declared.reply.LineResult.TheVariants as results
use Rattle.sect_command.specs.declared.reply.Refusal.{Refusal}
use Rattle.sect_command.specs.declared.reply.Refusal.TheVariants as refusals
use Rattle.sect_command.specs.declared.reply.RowFault.{RowFault}
use Rattle.sect_command.specs.declared.reply.RowFault.TheVariants as faults
use Rattle.sect_once.specs.declared.entry.Entry.{Entry}
use Rattle.sect_text.specs.Commands.{command_words}
use Rattle.sect_text.specs.Replies.{catalog_fault_words, request_fault_words, reserve_fault_words, row_fault_words, refusal_words, result_words, line_words, choice_words, reply_words}
use Rattle.sect_text.specs.Rows.{row_front, id_words, row_words, is_marked}
use Rattle.sect_read.specs.Fits.{FitsDay, FitsOptional, FitsCommand, FitsCatalogFault, FitsRequestFault, FitsReserveFault, FitsRowFault, FitsRefusal, FitsResult, FitsLine, FitsReply, FitsEntry, FitsId}
use Rattle.sect_read.specs.Lines.{day_words}
use Rattle.sect_read.proofs.Bytes.{all_joined}
use Rattle.sect_read.proofs.PartLaws.{ComesApart}
use Rattle.sect_read.proofs.CommandSpaces.{command_spaces}
use Rattle.sect_read.proofs.WordSpaces.{Words, caller_word, choice_word, day_word, key, number, small, tree_word, words_apart, words_append, words_each}

catalog_spaces : (x : CatalogFault) → FitsCatalogFault x → Words (catalog_fault_words x)
catalog_spaces (catalog.Known n) fits = (key (codes "Known") refl, (small n fits, tt))
catalog_spaces catalog.NoCourse fits = (key (codes "NoCourse") refl, tt)
catalog_spaces catalog.NoConfig fits = (key (codes "NoConfig") refl, tt)
catalog_spaces (catalog.NoSubpart n) fits = (key (codes "NoSubpart") refl, (small n fits, tt))
catalog_spaces (catalog.NoSection n) fits = (key (codes "NoSection") refl, (small n fits, tt))
catalog_spaces (catalog.BadParent n) fits = (key (codes "BadParent") refl, (small n fits, tt))
catalog_spaces (catalog.TooMany n) fits = (key (codes "TooMany") refl, (small n fits, tt))

request_spaces : (x : RequestFault) → FitsRequestFault x → Words (request_fault_words x)
request_spaces (request.UnknownCourse n) fits = (key (codes "UnknownCourse") refl, (small n fits, tt))
request_spaces (request.Twice n) fits = (key (codes "Twice") refl, (small n fits, tt))
request_spaces (request.TooMany n) fits = (key (codes "TooMany") refl, (small n fits, tt))

reserve_spaces : (x : ReserveFault) → FitsReserveFault x → Words (reserve_fault_words x)
reserve_spaces (reserve.Known n) fits = (key (codes "Known") refl, (small n fits, tt))
reserve_spaces (reserve.Foreign n) fits = (key (codes "Foreign") refl, (small n fits, tt))
reserve_spaces reserve.NoGroup fits = (key (codes "NoGroup") refl, tt)
reserve_spaces (reserve.TooMany n) fits = (key (codes "TooMany") refl, (small n fits, tt))

row_fault_spaces : (x : RowFault) → FitsRowFault x → Words (row_fault_words x)
row_fault_spaces (faults.Offering f) fits = (key (codes "offering") refl, catalog_spaces f fits)
row_fault_spaces (faults.Request f) fits = (key (codes "request") refl, request_spaces f fits)
row_fault_spaces (faults.Reserve f) fits = (key (codes "reserve") refl, reserve_spaces f fits)

refusal_spaces : (x : Refusal) → FitsRefusal x → Words (refusal_words x)
refusal_spaces refusals.NotYours fits = (key (codes "NotYours") refl, tt)
refusal_spaces (refusals.Unknown n) fits = (key (codes "Unknown") refl, (small n fits, tt))
refusal_spaces refusals.EmptyWant fits = (key (codes "EmptyWant") refl, tt)
refusal_spaces (refusals.TooMany n) fits = (key (codes "TooMany") refl, (small n fits, tt))
refusal_spaces (refusals.NotEnrolled c) fits = (key (codes "NotEnrolled") refl, (small c.0 fits, tt))
refusal_spaces (refusals.WaitingAlready t) fits = (key (codes "WaitingAlready") refl, (number t fits, tt))
refusal_spaces refusals.NotWaiting fits = (key (codes "NotWaiting") refl, tt)
refusal_spaces (refusals.LimitBelow n) fits = (key (codes "LimitBelow") refl, (small n fits, tt))
refusal_spaces (refusals.InUse n) fits = (key (codes "InUse") refl, (small n fits, tt))
refusal_spaces (refusals.Row f) fits = (key (codes "Row") refl, row_fault_spaces f fits)

result_spaces : (x : LineResult) → FitsResult x → Words (result_words x)
result_spaces (results.Met c) fits = (key (codes "met") refl, (choice_word c fits, tt))
result_spaces (results.Held c) fits = (key (codes "held") refl, (small c.0 fits, tt))
result_spaces (results.Blocked v t) fits = (key (codes "blocked") refl, (small v fits.0, (tree_word 36 t fits.1, tt)))
result_spaces results.Spent fits = (key (codes "spent") refl, tt)
result_spaces (results.Waiting t) fits = (key (codes "waiting") refl, (number t fits, tt))
result_spaces results.Skipped fits = (key (codes "skipped") refl, tt)

line_spaces : (l : Line) → FitsLine l → Words (line_words l)
line_spaces l fits = (all_joined (λ byte. (byte == 32) ≡ false) 46 refl (decimal l.student.0 ∷ decimal l.rank ∷ []) (small l.student.0 fits.0, (number l.rank (omega (arith, fits.1)), tt)), result_spaces l.result fits.2)

-- a reply is of words without spaces
pub reply_spaces : (x : Reply) → FitsReply x → Words (reply_words x)
reply_spaces replies.Amended fits = (key (codes "amended") refl, tt)
reply_spaces (replies.Enrolled c) fits = (key (codes "enrolled") refl, (choice_word c fits, tt))
reply_spaces (replies.Dropped c) fits = (key (codes "dropped") refl, (small c.0 fits, tt))
reply_spaces (replies.Swapped cs) fits = (key (codes "swapped") refl, words_each choice_words (λ c f. (choice_word c f, tt)) cs fits)
reply_spaces (replies.Waiting t) fits = (key (codes "waiting") refl, (number t fits, tt))
reply_spaces (replies.Placed t c) fits = (key (codes "placed") refl, (number t fits.0, (choice_word c fits.1, tt)))
reply_spaces (replies.Batched ls) fits = (key (codes "batched") refl, words_each line_words line_spaces ls fits)
reply_spaces (replies.Blocked v t) fits = (key (codes "blocked") refl, (small v fits.0, (tree_word 36 t fits.1, tt)))
reply_spaces (replies.Spent n) fits = (key (codes "spent") refl, (small n fits, tt))
reply_spaces (replies.Refused r) fits = (key (codes "refused") refl, refusal_spaces r fits)

-- the words of a reply's text are its words
pub reply_apart : (x : Reply) → FitsReply x → ComesApart 32 (reply_words x)
reply_apart replies.Amended fits = words_apart _ _ (reply_spaces replies.Amended fits)
reply_apart (replies.Enrolled c) fits = words_apart _ _ (reply_spaces (replies.Enrolled c) fits)
reply_apart (replies.Dropped c) fits = words_apart _ _ (reply_spaces (replies.Dropped c) fits)
reply_apart (replies.Swapped cs) fits = words_apart _ _ (reply_spaces (replies.Swapped cs) fits)
reply_apart (replies.Waiting t) fits = words_apart _ _ (reply_spaces (replies.Waiting t) fits)
reply_apart (replies.Placed t c) fits = words_apart _ _ (reply_spaces (replies.Placed t c) fits)
reply_apart (replies.Batched ls) fits = words_apart _ _ (reply_spaces (replies.Batched ls) fits)
reply_apart (replies.Blocked v t) fits = words_apart _ _ (reply_spaces (replies.Blocked v t) fits)
reply_apart (replies.Spent n) fits = words_apart _ _ (reply_spaces (replies.Spent n) fits)
reply_apart (replies.Refused r) fits = words_apart _ _ (reply_spaces (replies.Refused r) fits)

rest_spaces : (e : Entry Command Reply) → FitsEntry e → Words (id_words e.id ++ (command_words e.command ++ ((61 ∷ []) ∷ reply_words e.reply)))
rest_spaces e fits = (caller_word e.id.caller fits.1.0, (number e.id.number fits.1.1, words_append (command_words e.command) ((61 ∷ []) ∷ reply_words e.reply) (command_spaces e.command fits.2) ((refl, tt), reply_spaces e.reply fits.3)))

row_by : (e : Entry Command Reply) → FitsEntry e → (marked : Bool) → ComesApart 32 (row_front marked e.day ++ (id_words e.id ++ (command_words e.command ++ ((61 ∷ []) ∷ reply_words e.reply))))
row_by e fits true = words_apart _ _ ((refl, tt), (day_word e.day fits.0, rest_spaces e fits))
row_by e fits false = words_apart _ _ (day_word e.day fits.0, rest_spaces e fits)

-- the words of a row are its words
pub row_apart : (e : Entry Command Reply) → FitsEntry e → ComesApart 32 (row_words e)
row_apart e fits = row_by e fits (is_marked e.command)

line_by : (day : Option ℕ) (id : Id) (c : Command) → FitsOptional FitsDay day → FitsId id → FitsCommand c → ComesApart 32 (day_words day ++ (id_words id ++ command_words c))
line_by None id c fits fits2 fits3 = words_apart _ _ (caller_word id.caller fits2.0, (number id.number fits2.1, command_spaces c fits3))
line_by (Some day) id c fits fits2 fits3 = words_apart _ _ ((refl, day_word day fits), (caller_word id.caller fits2.0, (number id.number fits2.1, command_spaces c fits3)))

-- the words of a request that is printed are its words
pub line_apart : (day : Option ℕ) (id : Id) (c : Command) → FitsOptional FitsDay day → FitsId id → FitsCommand c → ComesApart 32 (day_words day ++ (id_words id ++ command_words c))
line_apart = line_by
