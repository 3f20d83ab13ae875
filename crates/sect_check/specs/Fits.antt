-- Whether a word has a form.
use Rattle.std.specs.Prelude.{ℕ, Bool, false, List, if◌then◌else◌, Option, None, Some, codes}
use Rattle.std.specs.Option.{is_some}
use Rattle.std.specs.Str.{bytes_eq}
use Rattle.sect_words.specs.ReadingWords.{audience_of, between_of, caller_of, curriculum_of, day_of, limit_of, list_of, meeting_of, optional_of, u16_of, u32_of, u64_of}
use Rattle.sect_check.specs.declared.form.Form.{Form}
use Rattle.sect_check.specs.declared.form.Form.TheVariants as forms

-- the word has the form; what stands for a word of the command or the end is no form of one word
unfoldable pub fits : Form → List ℕ → Bool
fits forms.Caller word = is_some (caller_of word)
fits forms.Number word = is_some (u64_of word)
fits forms.Id word = is_some (u32_of word)
fits forms.Ids word = is_some (list_of 43 u32_of word)
fits forms.OptionalId word = is_some (optional_of u32_of word)
fits forms.Limit word = is_some (limit_of word)
fits forms.Credits word = is_some (between_of 0 30 word)
fits forms.MostCredits word = is_some (u16_of word)
fits forms.Day word = is_some (day_of word)
fits forms.OptionalDay word = is_some (optional_of day_of word)
fits forms.Meeting word = is_some (meeting_of word)
fits forms.Meetings word = is_some (list_of 43 meeting_of word)
fits forms.Audience word = is_some (audience_of word)
fits forms.Curriculum word = is_some (curriculum_of word)
fits (forms.UpTo most) word = is_some (between_of 1 most word)
fits forms.DayMark word = false
fits forms.Command word = false
fits forms.Max word = false
fits forms.Level word = false
fits (forms.End verb) word = false
