-- option by option, with the trees of those in front
use Rattle.std.proofs.Common.{◌≡◌, ◌++◌, ◌∷◌, [], false, IfOk, sym, ◌∙◌, ap, subst, arith, ◌<◌, length}
use Rattle.std.specs.Option.{option_map}
use Rattle.sect_model.specs.declared.pick.Pick.TheVariants.{Course, Reservation, Config, Section}
use Rattle.sect_model.specs.Path.{extend, is_complete}
use Rattle.sect_model.specs.Search.{found, search_from}
use Rattle.sect_moment.specs.Completed.{opened}
use Rattle.sect_moment.specs.Found.{id_of}
use Rattle.sect_rules.specs.Due.{wanted_place, course_place, joined_place, config_place}
use Rattle.sect_rules.specs.Wanted.{OnCourse, Joined, Configured, course_path, joined_path, config_path}
use Rattle.sect_search.specs.Told.{told, own, go_from}
use Rattle.sect_search.proofs.OpenLemmas.{open-left, open-option, went-on, whole-from, want-after, open-want, goes}
use Rattle.sect_search.proofs.LookLemmas.{has-base, tells-itself, tells-behind, passed-all, passed-one, passed-found, passed-spent}
use Rattle.sect_search.proofs.walk.+walking.Goals as goal

-- courses
pub below_want-returns-in-Found-clause-found : goal.below_want-returns-in-Found-clause-found
below_want-returns-in-Found-clause-found g t c = passed-found c.courses.invariant.passed c.in-Some.ensures c.in_ok-visit_course.ensures.tells (omega (arith, c.if-decisions-eq0.false)) c.in-Found.is

pub below_want-returns-in-Spent-clause-found : goal.below_want-returns-in-Spent-clause-found
below_want-returns-in-Spent-clause-found g t c = passed-spent c.courses.invariant.passed c.in-Some.ensures c.in_ok-visit_course.ensures.tells (omega (arith, c.if-decisions-eq0.false)) c.in-Spent.is

pub below_want-returns-clause-found : goal.below_want-returns-clause-found
below_want-returns-clause-found g t c = passed-all c.courses.invariant.passed (omega (arith, c.if-decisions-eq0.false)) (ap (option_map Course) (sym c.in_default.is) ∙ c.course.ensures)

pub below_want-courses-preserved : goal.below_want-courses-preserved
below_want-courses-preserved g t c = record {
  passed = passed-one c.courses.invariant.passed c.in-Some.ensures c.in_ok-visit_course.ensures.tells c.in-Refuted.is;
  whole = c.courses.invariant.whole;
}

pub below_want-overflow_add-at : goal.below_want-overflow_add-at
below_want-overflow_add-at g t c = omega (arith, c.courses.invariant.passed.less)

-- reservations
pub below_course-returns-in-Found-clause-found : goal.below_course-returns-in-Found-clause-found
below_course-returns-in-Found-clause-found g t c = passed-found c.reservations.invariant.passed c.in-Some.ensures.value c.in_ok-visit_reservation.ensures.tells (omega (arith, c.if-decisions-eq0.false)) c.in-Found.is

pub below_course-returns-in-Spent-clause-found : goal.below_course-returns-in-Spent-clause-found
below_course-returns-in-Spent-clause-found g t c = passed-spent c.reservations.invariant.passed c.in-Some.ensures.value c.in_ok-visit_reservation.ensures.tells (omega (arith, c.if-decisions-eq0.false)) c.in-Spent.is

pub below_course-returns-clause-found : goal.below_course-returns-clause-found
below_course-returns-clause-found g t c = passed-all c.reservations.invariant.passed (omega (arith, c.if-decisions-eq0.false)) (ap (option_map (λ row. Reservation (id_of row))) (sym c.in_default.is) ∙ c.reservation.ensures.value)

pub below_course-reservations-preserved : goal.below_course-reservations-preserved
below_course-reservations-preserved g t c = record {
  passed = passed-one c.reservations.invariant.passed c.in-Some.ensures.value c.in_ok-visit_reservation.ensures.tells c.in-Refuted.is;
  whole = c.reservations.invariant.whole;
}

pub below_course-overflow_add-at : goal.below_course-overflow_add-at
below_course-overflow_add-at g t c = omega (arith, c.reservations.invariant.passed.less)

-- configs
pub below_reservation-returns-in-Found-clause-found : goal.below_reservation-returns-in-Found-clause-found
below_reservation-returns-in-Found-clause-found g t c = passed-found c.configs.invariant.passed c.in-Some.ensures.value c.in_ok-visit_config.ensures.tells (omega (arith, c.if-decisions-eq0.false)) c.in-Found.is

pub below_reservation-returns-in-Spent-clause-found : goal.below_reservation-returns-in-Spent-clause-found
below_reservation-returns-in-Spent-clause-found g t c = passed-spent c.configs.invariant.passed c.in-Some.ensures.value c.in_ok-visit_config.ensures.tells (omega (arith, c.if-decisions-eq0.false)) c.in-Spent.is

pub below_reservation-returns-clause-found : goal.below_reservation-returns-clause-found
below_reservation-returns-clause-found g t c = passed-all c.configs.invariant.passed (omega (arith, c.if-decisions-eq0.false)) (ap (option_map (λ row. Config row.now.id)) (sym c.in_default.is) ∙ c.config.ensures.value)

pub below_reservation-configs-preserved : goal.below_reservation-configs-preserved
below_reservation-configs-preserved g t c = record {
  passed = passed-one c.configs.invariant.passed c.in-Some.ensures.value c.in_ok-visit_config.ensures.tells c.in-Refuted.is;
  whole = c.configs.invariant.whole;
}

pub below_reservation-overflow_add-at : goal.below_reservation-overflow_add-at
below_reservation-overflow_add-at g t c = omega (arith, c.configs.invariant.passed.less)

-- sections
pub below_config-returns-in-Found-clause-found : goal.below_config-returns-in-Found-clause-found
below_config-returns-in-Found-clause-found g t c = passed-found c.sections.invariant.passed c.in-Some.ensures.value c.in_ok-visit_section.ensures.tells (omega (arith, c.if-decisions-eq0.false)) c.in-Found.is

pub below_config-returns-in-Spent-clause-found : goal.below_config-returns-in-Spent-clause-found
below_config-returns-in-Spent-clause-found g t c = passed-spent c.sections.invariant.passed c.in-Some.ensures.value c.in_ok-visit_section.ensures.tells (omega (arith, c.if-decisions-eq0.false)) c.in-Spent.is

pub below_config-returns-clause-found : goal.below_config-returns-clause-found
below_config-returns-clause-found g t c = passed-all c.sections.invariant.passed (omega (arith, c.if-decisions-eq0.false)) (ap (option_map (λ row. Section row.now.id)) (sym c.in_default.is) ∙ c.section_at.ensures.value)

pub below_config-sections-preserved : goal.below_config-sections-preserved
below_config-sections-preserved g t c = record {
  passed = passed-one c.sections.invariant.passed c.in-Some.ensures.value c.in_ok-visit_section.ensures.tells c.in-Refuted.is;
  whole = c.sections.invariant.whole;
}

pub below_config-overflow_add-at : goal.below_config-overflow_add-at
below_config-overflow_add-at g t c = omega (arith, c.sections.invariant.passed.less)

-- a look at a course
pub visit_course-returns-in-Some-clause-tells : goal.visit_course-returns-in-Some-clause-tells
visit_course-returns-in-Some-clause-tells g t c =
    let after = c.looked.new.walk in
    tells-itself (wanted_place c.args.wanted.now) (Course c.args.course) c.args.decisions c.broken.result c.args.walk.now.left after.left c.args.walk.now.trees.items after.trees.items after.choices c.in-Some.searched
    c.broken.ensures (sym c.in-Some.is ∙ c.in_ok-searched.ensures.found) c.in_ok-searched.ensures.trees c.in_ok-searched.ensures.numbers c.looked.ensures.left

pub visit_course-closed-requires : goal.visit_course-closed-requires
visit_course-closed-requires g t c = has-base c.height-base.result c.looked.new.walk.trees.items c.below_course.new.walk.trees.items c.in_ok-found.found c.height-base.ensures c.in_ok-found.ensures.kept

pub visit_course-returns-clause-tells : goal.visit_course-returns-clause-tells
visit_course-returns-clause-tells g t c =
    let at = wanted_place c.args.wanted.now in
    let before = c.looked.new.walk in
    let after = c.below_course.new.walk in
    let v : OnCourse = record { wanted = c.args.wanted.now; course = c.args.course } in
    let follows =
    c.in_ok-found.ensures.found
    ∙ ap (λ v. search_from v.wanted.world v.wanted.mv c.args.decisions (course_path v) before.left) c.new-on.ensures
    ∙ went-on v.wanted.world v.wanted.mv (course_path v) c.args.decisions before.left (open-left v.wanted.mv (course_path v) c.recall_left.ensures)
    in
    tells-behind at (Course c.args.course) c.args.decisions c.broken.result c.args.walk.now.left before.left after.left c.height-base.result c.args.walk.now.trees.items before.trees.items after.trees.items c.closed.new.trees.items after.choices c.in_ok-found.found
    c.broken.ensures (sym c.in_default.is ∙ c.in_ok-searched.ensures.found) c.in_ok-searched.ensures.trees c.looked.ensures.left c.height-base.ensures
    follows c.in_ok-found.ensures.numbers c.below_course.ensures.less c.in_ok-found.ensures.kept c.in_ok-closed.ensures

-- a look at a reservation
pub visit_reservation-returns-in-Some-clause-tells : goal.visit_reservation-returns-in-Some-clause-tells
visit_reservation-returns-in-Some-clause-tells g t c =
    let after = c.looked.new.walk in
    tells-itself (course_place c.args.on.now) (Reservation (id_of c.args.row)) c.args.decisions c.broken.result c.args.walk.now.left after.left c.args.walk.now.trees.items after.trees.items after.choices c.in-Some.searched
    c.broken.ensures (sym c.in-Some.is ∙ c.in_ok-searched.ensures.found) c.in_ok-searched.ensures.trees c.in_ok-searched.ensures.numbers c.looked.ensures.left

pub visit_reservation-closed-requires : goal.visit_reservation-closed-requires
visit_reservation-closed-requires g t c = has-base c.height-base.result c.looked.new.walk.trees.items c.below_reservation.new.walk.trees.items c.in_ok-found.found c.height-base.ensures c.in_ok-found.ensures.kept

pub visit_reservation-returns-clause-tells : goal.visit_reservation-returns-clause-tells
visit_reservation-returns-clause-tells g t c =
    let at = course_place c.args.on.now in
    let before = c.looked.new.walk in
    let after = c.below_reservation.new.walk in
    let v : Joined = record { on = c.args.on.now; id = id_of c.args.row } in
    let follows =
    c.in_ok-found.ensures.found
    ∙ ap (λ v. search_from v.on.wanted.world v.on.wanted.mv c.args.decisions (joined_path v) before.left) c.new-by.ensures
    ∙ went-on v.on.wanted.world v.on.wanted.mv (joined_path v) c.args.decisions before.left (open-left v.on.wanted.mv (joined_path v) (subst (λ v. length v.done < length v.mv.take) c.wanted.ensures c.recall_left.ensures))
    in
    tells-behind at (Reservation (id_of c.args.row)) c.args.decisions c.broken.result c.args.walk.now.left before.left after.left c.height-base.result c.args.walk.now.trees.items before.trees.items after.trees.items c.closed.new.trees.items after.choices c.in_ok-found.found
    c.broken.ensures (sym c.in_default.is ∙ c.in_ok-searched.ensures.found) c.in_ok-searched.ensures.trees c.looked.ensures.left c.height-base.ensures
    follows c.in_ok-found.ensures.numbers c.below_reservation.ensures.less c.in_ok-found.ensures.kept c.in_ok-closed.ensures

-- a look at a config
pub visit_config-returns-in-Some-clause-tells : goal.visit_config-returns-in-Some-clause-tells
visit_config-returns-in-Some-clause-tells g t c =
    let after = c.looked.new.walk in
    tells-itself (joined_place c.args.by.now) (Config c.args.row.now.id) c.args.decisions c.broken.result c.args.walk.now.left after.left c.args.walk.now.trees.items after.trees.items after.choices c.in-Some.searched
    c.broken.ensures (sym c.in-Some.is ∙ c.in_ok-searched.ensures.found) c.in_ok-searched.ensures.trees c.in_ok-searched.ensures.numbers c.looked.ensures.left

pub visit_config-closed-requires : goal.visit_config-closed-requires
visit_config-closed-requires g t c = has-base c.height-base.result c.looked.new.walk.trees.items c.below_config.new.walk.trees.items c.in_ok-found.found c.height-base.ensures c.in_ok-found.ensures.kept

pub visit_config-returns-clause-tells : goal.visit_config-returns-clause-tells
visit_config-returns-clause-tells g t c =
    let at = joined_place c.args.by.now in
    let before = c.looked.new.walk in
    let after = c.below_config.new.walk in
    let v : Configured = record { by = c.args.by.now; config = c.args.row.now.id; sections = [] } in
    let follows =
    c.in_ok-found.ensures.found
    ∙ ap (λ v. search_from v.by.on.wanted.world v.by.on.wanted.mv c.args.decisions (config_path v) before.left) c.new-inside.ensures
    ∙ went-on v.by.on.wanted.world v.by.on.wanted.mv (config_path v) c.args.decisions before.left (open-left v.by.on.wanted.mv (config_path v) (subst (λ v. length v.done < length v.mv.take) (c.wanted.ensures ∙ ap (λ on. on.wanted) c.on.ensures) c.recall_left.ensures))
    in
    tells-behind at (Config c.args.row.now.id) c.args.decisions c.broken.result c.args.walk.now.left before.left after.left c.height-base.result c.args.walk.now.trees.items before.trees.items after.trees.items c.closed.new.trees.items after.choices c.in_ok-found.found
    c.broken.ensures (sym c.in_default.is ∙ c.in_ok-searched.ensures.found) c.in_ok-searched.ensures.trees c.looked.ensures.left c.height-base.ensures
    follows c.in_ok-found.ensures.numbers c.below_config.ensures.less c.in_ok-found.ensures.kept c.in_ok-closed.ensures

-- a look at a section
pub visit_section-returns-in-Some-clause-tells : goal.visit_section-returns-in-Some-clause-tells
visit_section-returns-in-Some-clause-tells g t c =
    let after = c.looked.new.walk in
    tells-itself (config_place c.args.inside.now) (Section c.args.row.now.id) c.args.decisions c.broken.result c.args.walk.now.left after.left c.args.walk.now.trees.items after.trees.items after.choices c.in-Some.searched
    c.broken.ensures (sym c.in-Some.is ∙ c.in_ok-searched.ensures.found) c.in_ok-searched.ensures.trees c.in_ok-searched.ensures.numbers c.looked.ensures.left

pub visit_section-closed-requires : goal.visit_section-closed-requires
visit_section-closed-requires g t c = has-base c.height-base.result c.looked.new.walk.trees.items c.behind_section.new.walk.trees.items c.in_ok-found.found c.height-base.ensures c.in_ok-found.ensures.kept

pub visit_section-returns-clause-tells : goal.visit_section-returns-clause-tells
visit_section-returns-clause-tells g t c =
    let at = config_place c.args.inside.now in
    let before = c.looked.new.walk in
    let after = c.behind_section.new.walk in
    tells-behind at (Section c.args.row.now.id) c.args.decisions c.broken.result c.args.walk.now.left before.left after.left c.height-base.result c.args.walk.now.trees.items before.trees.items after.trees.items c.closed.new.trees.items after.choices c.in_ok-found.found
    c.broken.ensures (sym c.in_default.is ∙ c.in_ok-searched.ensures.found) c.in_ok-searched.ensures.trees c.looked.ensures.left c.height-base.ensures
    c.in_ok-found.ensures.found c.in_ok-found.ensures.numbers c.behind_section.ensures.less c.in_ok-found.ensures.kept c.in_ok-closed.ensures

-- behind a section another is due
pub behind_section-returns-in-None-clause-found : goal.behind_section-returns-in-None-clause-found
behind_section-returns-in-None-clause-found g t c =
    let n = c.args.decisions in
    let left = c.args.walk.now.left in
    let before = c.args.walk.now.trees.items in
    let u = c.args.inside.now in
    let w = u.by.on.wanted.world in
    let mv = u.by.on.wanted.mv in
    let section = c.args.row.now.id in
    let v : Configured = record u { sections = u.sections ++ section ∷ [] } in
    let going : is_complete mv (config_path v) ≡ false = open-option w mv (config_path u) (Section section) c.requires.option in
    let on : extend w (config_path u) (Section section) ≡ config_path v = goes w u section (sym c.completed.ensures ∙ c.in-None.is) in
    subst (λ x. IfOk c.below_config.result (λ r. told r c.below_config.new.walk.choices (own before c.below_config.new.walk.trees.items) c.below_config.new.walk.left ≡ x))
    (ap (λ v. search_from v.by.on.wanted.world v.by.on.wanted.mv n (config_path v) left) c.behind-next.ensures
    ∙ went-on w mv (config_path v) n left going
    ∙ (λ i. go_from w mv (sym on i) n left))
    c.below_config.ensures.found

-- a want is left behind the choice
pub ended-returns-in-Some-clause-found : goal.ended-returns-in-Some-clause-found
ended-returns-in-Some-clause-found g t c =
    let v = c.args.wanted.now in
    let n = c.args.decisions in
    let left = c.args.walk.now.left in
    let before = c.args.walk.now.trees.items in
    let mv = c.mv-mv.result.now in
    let done = c.done-done.result.now in
    let choice = c.args.choice in
    let longer : c.done.result.now ≡ done ++ choice ∷ [] = c.done.ensures.value ∙ ap (λ p. p.done) c.made-path.ensures in
    let known = want-after mv done choice c.in-Some.want (sym c.want.ensures ∙ c.in-Some.is) in
    subst (λ x. IfOk c.below_want.result (λ r. told r c.below_want.new.walk.choices (own before c.below_want.new.walk.trees.items) c.below_want.new.walk.left ≡ x))
    (ap (λ q. search_from q.world q.mv n (opened q.done) left) c.new-next.ensures
    ∙ (λ i. search_from (c.world.ensures i) mv n (opened (longer i)) left)
    ∙ went-on v.world mv (opened (done ++ choice ∷ [])) n left (open-want mv (opened (done ++ choice ∷ [])) c.in-Some.want known)
    ∙ (λ i. go_from v.world (c.mv-mv.ensures i) (opened (c.done-done.ensures i ++ choice ∷ [])) n left))
    c.below_want.ensures.found

-- no want is left behind it
pub ended-returns-in_ok-before-in-None-clause-found : goal.ended-returns-in_ok-before-in-None-clause-found
ended-returns-in_ok-before-in-None-clause-found g t c =
    let v = c.args.wanted.now in
    let n = c.args.decisions in
    let left = c.args.walk.now.left in
    let before = c.args.walk.now.trees.items in
    let choice = c.args.choice in
    ap (λ choices. found choices left) (c.new.ensures ∙ ap (λ done. done ++ choice ∷ []) c.in_ok-before-in-None.ensures)
    ∙ whole-from v.world c.mv-mv.result.now c.done-done.result.now choice n left (sym c.want.ensures ∙ c.in-None.is)
    ∙ (λ i. go_from v.world (c.mv-mv.ensures i) (opened (c.done-done.ensures i ++ choice ∷ [])) n left)
