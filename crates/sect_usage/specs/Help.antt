-- The texts of help.
use Rattle.std.specs.Prelude.{ℕ, List}
use Rattle.sect_usage.specs.declared.help.TheConstants.{AUDIT_HELP, DESK_HELP, EXPORT_HELP, IMPORT_HELP, MAKE_HELP, PLAN_HELP, REPORT_HELP, RUN_HELP, SERVE_HELP, SURVEY_HELP, VERSION}
use Rattle.sect_usage.specs.declared.verb.Verb.TheVariants as verbs
use Rattle.sect_usage.specs.declared.verb.Topic.{Topic}
use Rattle.sect_usage.specs.declared.verb.Topic.TheVariants as topics

-- the text of a topic
abbrev pub help_text : Topic → List ℕ
help_text topics.Desk = DESK_HELP.now
help_text (topics.Command verbs.Run) = RUN_HELP.now
help_text (topics.Command verbs.Serve) = SERVE_HELP.now
help_text (topics.Command verbs.Make) = MAKE_HELP.now
help_text (topics.Command verbs.Audit) = AUDIT_HELP.now
help_text (topics.Command verbs.Report) = REPORT_HELP.now
help_text (topics.Command verbs.Import) = IMPORT_HELP.now
help_text (topics.Command verbs.Export) = EXPORT_HELP.now
help_text (topics.Command verbs.Plan) = PLAN_HELP.now
help_text (topics.Command verbs.Survey) = SURVEY_HELP.now

-- the text of the version
abbrev pub version_text : List ℕ
version_text = VERSION.now
