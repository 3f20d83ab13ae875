-- The walk over the words of each command goes on exactly where the reader does.
use Rattle.std.proofs.Common.{◌≡◌, ℕ, Bool, true, false, List, [], Option, None, refl, subst}
use Rattle.std.specs.Prelude.{if◌then◌else◌, codes, ◌||◌}
use Rattle.sect_read.specs.ReadingCommands.{batch_at, cancel_at, cap_at, config_cap_at, course_cap_at, drop_at, enrol_at, expire_at, from_at, offering_command_at, only_at, optional_give_at, requests_at, reserve_at, reserve_command_at, restrict_at, restrict_command_at, section_cap_at, set_limit_at, stated_at, student_command_at, swap_at, take_at, take_starts, unreserve_at, unrestrict_at, unwait_at, wait_at, want_at}
use Rattle.sect_read.specs.ReadingRows.{ask_at, ask_starts, config_id_at, config_row_at, config_starts, course_ask_at, course_row_at, course_starts, curriculum_starts, curriculum_word_at, free_ask_at, give_at, give_starts, group_at, group_starts, offering_at, section_id_at, section_row_at, section_starts, student_row_at, subpart_at, subpart_starts}
use Rattle.sect_words.specs.Reading.{begins, each_at, later_parts}
use Rattle.sect_words.specs.ReadingWords.{config_id, course_id, group_id, offering_id, reservation_id, restriction_id, section_id, student_id, subpart_id}
use Rattle.sect_check.specs.declared.form.Form.TheVariants as forms
use Rattle.sect_check.specs.Walks.{Walk, ask_walk, config_walk, course_ask_walk, course_walk, drop_walk, each_walk, enrol_walk, expire_walk, level_walk, limit_walk, offering_walk, option_walk, pair_walk, passed, requests_walk, reserve_walk, restrict_walk, section_walk, stopped, student_walk, subpart_walk, swap_walk, take_walk, unwait_walk, wait_walk, walk_on, want_walk, word_walk}
use Rattle.sect_check.proofs.Agree.{Agree, agree_then, agree_made, agree_kept, agree_id, agree_ids, agree_optional_id, agree_limit, agree_day, agree_audience, agree_number, agree_meetings, agree_meeting, agree_credits, agree_most, agree_curriculum, agree_one_day, agree_up, agree_must, agree_key, agree_if, agree_each}

-- ---- the groups of commands

pub agree_section : (words : List (List ℕ)) → section_starts words ≡ true → Agree (section_walk words) (section_row_at words)
unfolding section_walk section_row_at
agree_section words e = agree_key (codes "section") words _ _ e
    (agree_then _ _ _ _ (agree_id section_id (later_parts words)) (λ id a. agree_then _ _ _ _ (agree_limit a)
    (λ limit b. agree_then _ _ _ _ (agree_optional_id section_id b) (λ parent c. agree_made _ _ _ (agree_meetings c)))))

pub agree_subpart : (words : List (List ℕ)) → subpart_starts words ≡ true → Agree (subpart_walk words) (subpart_at words)
unfolding subpart_walk subpart_at
agree_subpart words e = agree_key (codes "subpart") words _ _ e
    (agree_then _ _ _ _ (agree_id subpart_id (later_parts words))
    (λ id a. agree_made _ _ _ (agree_each section_starts section_walk section_row_at agree_section a)))

pub agree_config : (words : List (List ℕ)) → config_starts words ≡ true → Agree (config_walk words) (config_row_at words)
unfolding config_walk config_row_at
agree_config words e = agree_key (codes "config") words _ _ e
    (agree_then _ _ _ _ (agree_id config_id (later_parts words)) (λ id a. agree_then _ _ _ _ (agree_limit a)
    (λ limit b. agree_made _ _ _ (agree_each subpart_starts subpart_walk subpart_at agree_subpart b))))

pub agree_course : (words : List (List ℕ)) → course_starts words ≡ true → Agree (course_walk words) (course_row_at words)
unfolding course_walk course_row_at
agree_course words e = agree_key (codes "course") words _ _ e
    (agree_then _ _ _ _ (agree_id course_id (later_parts words)) (λ id a. agree_then _ _ _ _ (agree_limit a)
    (λ limit b. agree_made _ _ _ (agree_credits b))))

pub agree_config_name : (words : List (List ℕ)) → config_starts words ≡ true → Agree (pair_walk forms.Id words) (config_id_at words)
unfolding config_id_at
agree_config_name words e = agree_key (codes "config") words _ _ e (agree_id config_id (later_parts words))

pub agree_section_name : (words : List (List ℕ)) → section_starts words ≡ true → Agree (pair_walk forms.Id words) (section_id_at words)
unfolding section_id_at
agree_section_name words e = agree_key (codes "section") words _ _ e (agree_id section_id (later_parts words))

pub agree_group : (words : List (List ℕ)) → group_starts words ≡ true → Agree (pair_walk forms.Id words) (group_at words)
unfolding group_at
agree_group words e = agree_key (codes "group") words _ _ e (agree_id group_id (later_parts words))

pub agree_curriculum_word : (words : List (List ℕ)) → curriculum_starts words ≡ true → Agree (pair_walk forms.Curriculum words) (curriculum_word_at words)
unfolding curriculum_word_at
agree_curriculum_word words e = agree_key (codes "curriculum") words _ _ e (agree_curriculum (later_parts words))

pub agree_give : (words : List (List ℕ)) → give_starts words ≡ true → Agree (pair_walk forms.Id words) (give_at words)
unfolding give_at
agree_give words e = agree_key (codes "give") words _ _ e (agree_id course_id (later_parts words))

pub agree_course_ask : (words : List (List ℕ)) → Agree (course_ask_walk words) (course_ask_at (later_parts words))
unfolding course_ask_walk course_ask_at
agree_course_ask words = agree_then _ _ _ _ (agree_ids course_id (later_parts words)) (λ courses a. refl)

pub ask_by : {X : Type 0} (b c : Bool) (u v : Walk) (x y : Option (X × List (List ℕ))) → (b || c) ≡ true → Agree u x → Agree v y
    → Agree (if b then u else v) (if b then x else (if c then y else None))
ask_by true c u v x y e p q = p
ask_by false true u v x y e p q = q
ask_by false false u v x y e p q = absurd (cc)

pub agree_ask : (words : List (List ℕ)) → ask_starts words ≡ true → Agree (ask_walk words) (ask_at words)
unfolding ask_walk ask_at free_ask_at
agree_ask words e = ask_by (begins (codes "course") words) (begins (codes "free") words) _ _ _ _ e (agree_course_ask words)
    (agree_made _ _ _ (agree_meeting (later_parts words)))

-- a number behind its key
pub agree_stated : (key : List ℕ) (most usual : ℕ) (words : List (List ℕ))
    → Agree (option_walk key (forms.UpTo most) words) (stated_at key most usual true words)
unfolding option_walk stated_at
agree_stated key most usual words = agree_if (begins key words) _ _ words usual (λ e. agree_kept _ _ (agree_up most (later_parts words)))

pub agree_only : (words : List (List ℕ)) → Agree (option_walk (codes "only") forms.Ids words) (only_at true words)
unfolding option_walk only_at
agree_only words = agree_if (begins (codes "only") words) _ _ words [] (λ e. agree_kept _ _ (agree_ids section_id (later_parts words)))

pub agree_want : (words : List (List ℕ)) → Agree (want_walk words) (want_at true words)
unfolding want_walk want_at
agree_want words = agree_then _ _ _ _ (agree_ids course_id words) (λ courses a. agree_then _ _ _ _ (agree_only a)
    (λ only b. agree_made _ _ _ (agree_stated (codes "rank") 21 21 b)))

pub agree_take : (words : List (List ℕ)) → take_starts words ≡ true → Agree (take_walk words) (take_at true words)
unfolding take_at
agree_take words e = agree_key (codes "take") words _ _ e (agree_want (later_parts words))

-- ---- commands

pub agree_offering : (words : List (List ℕ)) → Agree (offering_walk words) (offering_command_at words)
unfolding offering_walk offering_command_at offering_at
agree_offering words = agree_made _ _ _ (agree_then _ _ _ _ (agree_id offering_id words)
    (λ id a. agree_then _ _ _ _ (agree_each course_starts course_walk course_row_at agree_course a)
    (λ courses b. agree_made _ _ _ (agree_each config_starts config_walk config_row_at agree_config b))))

pub agree_student : (words : List (List ℕ)) → Agree (student_walk words) (student_command_at words)
unfolding student_walk student_command_at student_row_at
agree_student words = agree_made _ _ _ (agree_then _ _ _ _ (agree_id student_id words) (λ id a. agree_must (codes "max") forms.Max a _ _
    (λ b. agree_then _ _ _ _ (agree_most b) (λ most c. agree_then _ _ _ _ (agree_each group_starts (pair_walk forms.Id) group_at agree_group c)
    (λ groups d. agree_made _ _ _ (agree_each curriculum_starts (pair_walk forms.Curriculum) curriculum_word_at agree_curriculum_word d))))))

pub agree_requests : (words : List (List ℕ)) → Agree (requests_walk words) (requests_at words)
unfolding requests_walk requests_at
agree_requests words = agree_then _ _ _ _ (agree_id student_id words) (λ student a. agree_made _ _ _ (agree_each ask_starts ask_walk ask_at agree_ask a))

pub agree_from : (words : List (List ℕ)) → Agree (option_walk (codes "from") forms.Day words) (from_at words)
unfolding option_walk from_at
agree_from words = agree_if (begins (codes "from") words) _ _ words None (λ e. agree_made _ _ _ (agree_one_day (later_parts words)))

pub agree_configs : (words : List (List ℕ)) → Agree (each_walk config_starts (pair_walk forms.Id) words) (each_at config_starts config_id_at words)
agree_configs words = agree_each config_starts (pair_walk forms.Id) config_id_at agree_config_name words

pub agree_sections : (words : List (List ℕ)) → Agree (each_walk section_starts (pair_walk forms.Id) words) (each_at section_starts section_id_at words)
agree_sections words = agree_each section_starts (pair_walk forms.Id) section_id_at agree_section_name words

pub walk_assoc : (w : Walk) (f h : List (List ℕ) → Walk) → walk_on (walk_on w f) h ≡ walk_on w (λ rest. walk_on (f rest) h)
walk_assoc (passed rest) f h = refl
walk_assoc (stopped rest form) f h = refl

pub agree_reserve : (words : List (List ℕ)) → Agree (reserve_walk words) (reserve_command_at words)
unfolding reserve_walk reserve_command_at reserve_at
agree_reserve words = agree_made _ _ _ (agree_then _ _ _ _ (agree_id reservation_id words) (λ id a. agree_then _ _ _ _ (agree_id offering_id a)
    (λ offering b. agree_then _ _ _ _ (agree_audience b) (λ audience c. agree_then _ _ _ _ (agree_limit c) (λ limit d. agree_then _ _ _ _ (agree_day d)
    (λ expiry e. agree_then _ _ _ _ (agree_from e) (λ first f. agree_then _ _ _ _ (agree_configs f)
    (λ configs g. agree_then _ _ _ _ (agree_sections g) (λ sections h. refl)))))))))

pub agree_expire : (words : List (List ℕ)) → Agree (expire_walk words) (expire_at words)
unfolding expire_walk expire_at
agree_expire words = agree_then _ _ _ _ (agree_id reservation_id words) (λ id a. agree_made _ _ _ (agree_day a))

pub agree_restrict : (words : List (List ℕ)) → Agree (restrict_walk words) (restrict_command_at words)
unfolding restrict_walk restrict_command_at restrict_at
agree_restrict words = agree_made _ _ _ (agree_then _ _ _ _ (agree_id restriction_id words) (λ id a. agree_then _ _ _ _ (agree_id offering_id a)
    (λ offering b. agree_then _ _ _ _ (agree_audience b) (λ audience c. agree_then _ _ _ _ (agree_configs c)
    (λ configs d. agree_made _ _ _ (agree_sections d))))))

pub cap_by : {X : Type 0} (a b c : Bool) (later words : List (List ℕ)) (x y z : Option (X × List (List ℕ))) → Agree (word_walk forms.Id later) x
    → Agree (word_walk forms.Id later) y
    → Agree (word_walk forms.Id later) z
    → Agree (walk_on (if a || (b || c) then passed later else stopped words forms.Level)
    (λ level. word_walk forms.Id level)) (if a then x else (if b then y else (if c then z else None)))
cap_by true b c later words x y z p q r = p
cap_by false true c later words x y z p q r = q
cap_by false false true later words x y z p q r = r
cap_by false false false later words x y z p q r = tt

pub agree_cap : (words : List (List ℕ)) → Agree (walk_on (level_walk words) (λ level. word_walk forms.Id level)) (cap_at words)
unfolding level_walk cap_at course_cap_at config_cap_at section_cap_at
agree_cap words = cap_by (begins (codes "course") words) (begins (codes "config") words) (begins (codes "section") words) (later_parts words) words _ _ _
    (agree_made _ _ _ (agree_id course_id (later_parts words))) (agree_made _ _ _ (agree_id config_id (later_parts words)))
    (agree_made _ _ _ (agree_id section_id (later_parts words)))

pub agree_limit_command : (words : List (List ℕ)) → Agree (limit_walk words) (set_limit_at words)
unfolding limit_walk set_limit_at
agree_limit_command words =
    subst (λ (w : Walk). Agree w (set_limit_at words)) (walk_assoc (level_walk words) (λ level. word_walk forms.Id level) (λ id. word_walk forms.Limit id))
    (agree_then _ _ _ _ (agree_cap words) (λ cap a. agree_made _ _ _ (agree_limit a)))

pub agree_enrol : (words : List (List ℕ)) → Agree (enrol_walk words) (enrol_at true words)
unfolding enrol_walk enrol_at
agree_enrol words = agree_then _ _ _ _ (agree_id student_id words) (λ student a. agree_then _ _ _ _ (agree_want a)
    (λ want b. agree_made _ _ _ (agree_stated (codes "budget") 20000 2000 b)))

pub agree_drop : (words : List (List ℕ)) → Agree (drop_walk words) (drop_at words)
unfolding drop_walk drop_at
agree_drop words = agree_then _ _ _ _ (agree_id student_id words) (λ student a. agree_made _ _ _ (agree_id course_id a))

pub agree_swap : (words : List (List ℕ)) → Agree (swap_walk words) (swap_at true words)
unfolding swap_walk swap_at
agree_swap words = agree_then _ _ _ _ (agree_id student_id words)
    (λ student a. agree_then _ _ _ _ (agree_each give_starts (pair_walk forms.Id) give_at agree_give a)
    (λ given b. agree_then _ _ _ _ (agree_each take_starts take_walk (take_at true) agree_take b)
    (λ taken c. agree_made _ _ _ (agree_stated (codes "budget") 20000 2000 c))))

pub agree_optional_give : (words : List (List ℕ)) → Agree (option_walk (codes "give") forms.Id words) (optional_give_at words)
unfolding option_walk optional_give_at
agree_optional_give words = agree_if (begins (codes "give") words) _ _ words None (λ e. agree_made _ _ _ (agree_give words e))

pub agree_wait : (words : List (List ℕ)) → Agree (wait_walk words) (wait_at true words)
unfolding wait_walk wait_at
agree_wait words = agree_then _ _ _ _ (agree_id student_id words) (λ student a. agree_then _ _ _ _ (agree_want a)
    (λ want b. agree_then _ _ _ _ (agree_optional_give b) (λ give c. agree_made _ _ _ (agree_stated (codes "class") 9 5 c))))

pub agree_unwait : (words : List (List ℕ)) → Agree (unwait_walk words) (unwait_at words)
unfolding unwait_walk unwait_at
agree_unwait words = agree_then _ _ _ _ (agree_id student_id words) (λ student a. agree_made _ _ _ (agree_number a))

pub agree_unreserve : (words : List (List ℕ)) → Agree (word_walk forms.Id words) (unreserve_at words)
unfolding unreserve_at
agree_unreserve words = agree_made _ _ _ (agree_id reservation_id words)

pub agree_unrestrict : (words : List (List ℕ)) → Agree (word_walk forms.Id words) (unrestrict_at words)
unfolding unrestrict_at
agree_unrestrict words = agree_made _ _ _ (agree_id restriction_id words)

pub agree_cancel : (words : List (List ℕ)) → Agree (word_walk forms.Id words) (cancel_at words)
unfolding cancel_at
agree_cancel words = agree_made _ _ _ (agree_id section_id words)

pub agree_batch : (words : List (List ℕ)) → Agree (word_walk forms.Ids words) (batch_at words)
unfolding batch_at
agree_batch words = agree_made _ _ _ (agree_ids student_id words)
