-- No byte of a reply's text is below a space.
use Rattle.std.proofs.Common.{ℕ, List, [], ◌∷◌, refl, decimal, lit≤}
use Rattle.std.specs.Prelude.{codes}
use Rattle.sect_catalog.specs.declared.row.CatalogFault.{CatalogFault}
use Rattle.sect_catalog.specs.declared.row.CatalogFault.TheVariants as catalog
use Rattle.sect_people.specs.declared.row.RequestFault.{RequestFault}
use Rattle.sect_people.specs.declared.row.RequestFault.TheVariants as request
use Rattle.sect_reserve.specs.declared.row.ReserveFault.{ReserveFault}
use Rattle.sect_reserve.specs.declared.row.ReserveFault.TheVariants as reserve
use Rattle.sect_command.specs.declared.reply.Reply.{Reply}
use Rattle.sect_command.specs.declared.reply.Reply.TheVariants as replies
use Rattle.sect_command.specs.declared.reply.Line.{Line}
use Rattle.sect_command.specs.declared.reply.LineResult.{LineResult}
use Rattle.sect_command.specs.declared.reply.LineResult.TheVariants as results
use Rattle.sect_command.specs.declared.reply.Refusal.{Refusal}
use Rattle.sect_command.specs.declared.reply.Refusal.TheVariants as refusals
use Rattle.sect_command.specs.declared.reply.RowFault.{RowFault}
use Rattle.sect_command.specs.declared.reply.RowFault.TheVariants as faults
use Rattle.sect_text.specs.Replies.{catalog_fault_words, choice_words, line_words, refusal_words, reply_text, reply_words, request_fault_words, reserve_fault_words, result_words, row_fault_words}
use Rattle.sect_clerk.proofs.Plain.{Plain, Plains, choice, each, joins, key, number, sentence_plain, tree}

catalog_plain : (x : CatalogFault) → Plains (catalog_fault_words x)
catalog_plain (catalog.Known n) = (key (codes "Known") refl, (number n, tt))
catalog_plain catalog.NoCourse = (key (codes "NoCourse") refl, tt)
catalog_plain catalog.NoConfig = (key (codes "NoConfig") refl, tt)
catalog_plain (catalog.NoSubpart n) = (key (codes "NoSubpart") refl, (number n, tt))
catalog_plain (catalog.NoSection n) = (key (codes "NoSection") refl, (number n, tt))
catalog_plain (catalog.BadParent n) = (key (codes "BadParent") refl, (number n, tt))
catalog_plain (catalog.TooMany n) = (key (codes "TooMany") refl, (number n, tt))

request_plain : (x : RequestFault) → Plains (request_fault_words x)
request_plain (request.UnknownCourse n) = (key (codes "UnknownCourse") refl, (number n, tt))
request_plain (request.Twice n) = (key (codes "Twice") refl, (number n, tt))
request_plain (request.TooMany n) = (key (codes "TooMany") refl, (number n, tt))

reserve_plain : (x : ReserveFault) → Plains (reserve_fault_words x)
reserve_plain (reserve.Known n) = (key (codes "Known") refl, (number n, tt))
reserve_plain (reserve.Foreign n) = (key (codes "Foreign") refl, (number n, tt))
reserve_plain reserve.NoGroup = (key (codes "NoGroup") refl, tt)
reserve_plain (reserve.TooMany n) = (key (codes "TooMany") refl, (number n, tt))

row_plain : (x : RowFault) → Plains (row_fault_words x)
row_plain (faults.Offering f) = (key (codes "offering") refl, catalog_plain f)
row_plain (faults.Request f) = (key (codes "request") refl, request_plain f)
row_plain (faults.Reserve f) = (key (codes "reserve") refl, reserve_plain f)

refusal_plain : (x : Refusal) → Plains (refusal_words x)
refusal_plain refusals.NotYours = (key (codes "NotYours") refl, tt)
refusal_plain (refusals.Unknown n) = (key (codes "Unknown") refl, (number n, tt))
refusal_plain refusals.EmptyWant = (key (codes "EmptyWant") refl, tt)
refusal_plain (refusals.TooMany n) = (key (codes "TooMany") refl, (number n, tt))
refusal_plain (refusals.NotEnrolled c) = (key (codes "NotEnrolled") refl, (number c.0, tt))
refusal_plain (refusals.WaitingAlready t) = (key (codes "WaitingAlready") refl, (number t, tt))
refusal_plain refusals.NotWaiting = (key (codes "NotWaiting") refl, tt)
refusal_plain (refusals.LimitBelow n) = (key (codes "LimitBelow") refl, (number n, tt))
refusal_plain (refusals.InUse n) = (key (codes "InUse") refl, (number n, tt))
refusal_plain (refusals.Row f) = (key (codes "Row") refl, row_plain f)

result_plain : (x : LineResult) → Plains (result_words x)
result_plain (results.Met c) = (key (codes "met") refl, (choice c, tt))
result_plain (results.Held c) = (key (codes "held") refl, (number c.0, tt))
result_plain (results.Blocked v t) = (key (codes "blocked") refl, (number v, (tree t, tt)))
result_plain results.Spent = (key (codes "spent") refl, tt)
result_plain (results.Waiting t) = (key (codes "waiting") refl, (number t, tt))
result_plain results.Skipped = (key (codes "skipped") refl, tt)

line_plain : (l : Line) → Plains (line_words l)
line_plain l = (joins 46 (lit≤ tt) (decimal l.student.0 ∷ decimal l.rank ∷ []) (number l.student.0, (number l.rank, tt)), result_plain l.result)

words_plain : (x : Reply) → Plains (reply_words x)
words_plain replies.Amended = (key (codes "amended") refl, tt)
words_plain (replies.Enrolled c) = (key (codes "enrolled") refl, (choice c, tt))
words_plain (replies.Dropped c) = (key (codes "dropped") refl, (number c.0, tt))
words_plain (replies.Swapped cs) = (key (codes "swapped") refl, each choice_words (λ c. (choice c, tt)) cs)
words_plain (replies.Waiting t) = (key (codes "waiting") refl, (number t, tt))
words_plain (replies.Placed t c) = (key (codes "placed") refl, (number t, (choice c, tt)))
words_plain (replies.Batched ls) = (key (codes "batched") refl, each line_words line_plain ls)
words_plain (replies.Blocked v t) = (key (codes "blocked") refl, (number v, (tree t, tt)))
words_plain (replies.Spent n) = (key (codes "spent") refl, (number n, tt))
words_plain (replies.Refused r) = (key (codes "refused") refl, refusal_plain r)

pub reply_plain : (x : Reply) → Plain (reply_text x)
reply_plain x = sentence_plain (reply_words x) (words_plain x)
