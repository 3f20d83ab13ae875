-- What is said of a decision that breaks a rule.
use Rattle.std.specs.Prelude.{ℕ, List, ◌++◌, Option, Some, None, codes, decimal}
use Rattle.std.specs.Option.{option_and_then}
use Rattle.sect_base.specs.declared.rule.Rule.{Rule}
use Rattle.sect_base.specs.declared.rule.Rule.TheVariants.{InOffering, Credits, NotApplicable, Expired, UsedUp, MustUse, CourseFull, OfferingFull, OfferingReserved, ConfigFull, ConfigReserved, NotIncluded, Restricted, Cancelled, Parent, SectionFull, SectionReserved, Overlap, FreeTime, NotAsked}
use Rattle.sect_base.specs.MeetingText.{meeting_text}
use Rattle.sect_model.specs.Data.{ReservationId, SectionId}
use Rattle.sect_model.specs.declared.pick.Pick.{Pick}
use Rattle.sect_model.specs.declared.pick.Pick.TheVariants as picks
use Rattle.sect_model.specs.World.{World, meetings_of, reservation_of}
use Rattle.sect_words.specs.Days.{day_text}
use Rattle.sect_words.specs.Words.{list_text, optional_text}

-- the decision: a course, a reservation or none, a configuration or a section
abbrev pub pick_text : Pick → List ℕ
pick_text (picks.Course id) = codes "course " ++ decimal id.0
pick_text (picks.Reservation None) = codes "no reservation"
pick_text (picks.Reservation (Some id)) = codes "reservation " ++ decimal id.0
pick_text (picks.Config id) = codes "configuration " ++ decimal id.0
pick_text (picks.Section id) = codes "section " ++ decimal id.0

-- words with a number between them
abbrev pub numbered : List ℕ → ℕ → List ℕ → List ℕ
numbered before n behind = before ++ (decimal n ++ behind)

-- the first and the last day of a reservation, each `-` where there is none
abbrev pub days_text : World → ReservationId → List ℕ
days_text w id =
    codes " is not in force: first day " ++ (optional_text day_text (option_and_then (λ r. r.first) (reservation_of w id))
    ++ (codes ", last day " ++ (optional_text day_text (option_and_then (λ r. r.expiry) (reservation_of w id)) ++ codes " (rule 4)\n")))

-- the section that is in the way, with its meetings
abbrev pub overlap_text : World → SectionId → List ℕ
overlap_text w id =
    codes " overlaps section " ++ (decimal id.0 ++ (codes " at " ++ (list_text 43 meeting_text (meetings_of w id) ++ codes " (rule 18)\n")))

-- what the decision breaks: the rule's words and number, and the number of its leaf where the decision doesn't tell it
abbrev pub reason_text : World → Rule → ℕ → List ℕ
reason_text w InOffering n = numbered (codes " is of offering ") n (codes ", of which a course is held (rule 1)\n")
reason_text w Credits n = numbered (codes " would make ") n (codes " credits, above the maximum (rule 2)\n")
reason_text w NotApplicable n = codes " is for other students (rule 3)\n"
reason_text w Expired n = days_text w (record { 0 = n })
reason_text w UsedUp n = codes " is used up (rule 5)\n"
reason_text w MustUse n = numbered (codes ", but reservation ") n (codes " must be used (rule 6)\n")
reason_text w CourseFull n = numbered (codes ", but course ") n (codes " is full (rule 7)\n")
reason_text w OfferingFull n = numbered (codes ", but offering ") n (codes " is full (rule 8)\n")
reason_text w OfferingReserved n = numbered (codes ", but what is left in offering ") n (codes " is reserved (rule 9)\n")
reason_text w ConfigFull n = codes " is full (rule 10)\n"
reason_text w ConfigReserved n = codes " has only places that are reserved for others (rule 11)\n"
reason_text w NotIncluded n = codes " is not included in the reservation (rule 12)\n"
reason_text w Restricted n = codes " is barred by restrictions (rule 13)\n"
reason_text w Cancelled n = codes " is cancelled (rule 14)\n"
reason_text w Parent n = codes " wants its parent, which was not chosen (rule 15)\n"
reason_text w SectionFull n = codes " is full (rule 16)\n"
reason_text w SectionReserved n = codes " has only places that are reserved for others (rule 17)\n"
reason_text w Overlap n = overlap_text w (record { 0 = n })
reason_text w FreeTime n = numbered (codes " meets in the free time of rank ") n (codes " (rule 19)\n")
reason_text w NotAsked n = codes " is not asked for (rule 20)\n"
