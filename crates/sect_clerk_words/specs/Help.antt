-- The texts of help.
use Rattle.std.specs.Prelude.{ℕ, List}
use Rattle.sect_clerk_words.specs.declared.help.TheConstants.{CHECK_HELP, CLERK_HELP, DEMAND_HELP, EXPLAIN_HELP, LOG_HELP, TIMETABLE_HELP, TRY_HELP, VERSION}
use Rattle.sect_clerk_words.specs.declared.verb.Topic.{Topic}
use Rattle.sect_clerk_words.specs.declared.verb.Topic.TheVariants as topics
use Rattle.sect_clerk_words.specs.declared.verb.Verb.TheVariants as verbs

-- the text of a topic
abbrev pub help_text : Topic → List ℕ
help_text topics.Clerk = CLERK_HELP.now
help_text (topics.Command verbs.Check) = CHECK_HELP.now
help_text (topics.Command verbs.Demand) = DEMAND_HELP.now
help_text (topics.Command verbs.Explain) = EXPLAIN_HELP.now
help_text (topics.Command verbs.Log) = LOG_HELP.now
help_text (topics.Command verbs.Timetable) = TIMETABLE_HELP.now
help_text (topics.Command verbs.Try) = TRY_HELP.now

-- the text of the version
abbrev pub version_text : List ℕ
version_text = VERSION.now
