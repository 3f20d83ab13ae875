-- option by option, tree by tree
use Rattle.std.proofs.Common.{◌≡◌, ◌<◌, ◌+◌, ◌++◌, ◌∷◌, [], false, sym, ◌∙◌, ap, subst, arith, length}
use Rattle.std.specs.Prelude.{◌&&◌, option_copied}
use Rattle.std.specs.Option.{option_map}
use Rattle.std.proofs.lemmas.Option.{slice_get_within}
use Rattle.sect_base.specs.Tree.{trees_of}
use Rattle.sect_base.specs.TreeOf.{tree_of}
use Rattle.sect_model.specs.declared.pick.Pick.TheVariants.{Section}
use Rattle.sect_model.specs.Covers.{covers_with, cover_each}
use Rattle.sect_model.specs.Path.{options_at, extend, is_complete}
use Rattle.sect_rules.specs.Due.{place_of, place_at, pick_at}
use Rattle.sect_moment.specs.Found.{id_of}
use Rattle.sect_rules.specs.Wanted.{OnCourse, Joined, Configured, course_path, joined_path, config_path}
use Rattle.sect_search.specs.Covered.{covered, covered_behind}
use Rattle.sect_search.proofs.OpenLemmas.{open-option, covered-open, goes}
use Rattle.sect_search.proofs.CoverLemmas.{from, cover-none, cover-one, cover-end}
use Rattle.sect_search.proofs.verifying.+covering.Goals as goal

pub cover-options-preserved : goal.cover-options-preserved
cover-options-preserved g t c =
    let w = (place_of c.args.due).world in
    let mv = (place_of c.args.due).mv in
    let p = (place_of c.args.due).path in
    let trees = c.args.trees.now in
    let within : c.options.at < length trees = slice_get_within trees c.options.at c.in-Some-tree_at.tree.now (sym c.in-Some-tree_at.ensures.value) in record {
      same = c.options.invariant.same
          ∙ cover-one w mv p (options_at w mv p) trees c.options.at (pick_at c.in-Some.step) c.in-Some-tree_at.tree.now (sym c.in-Some.ensures.value) (sym c.in-Some-tree_at.ensures.value)
          ∙ (λ i. ((λ j. covers_with (sym c.in-Some.ensures.place j).world (sym c.in-Some.ensures.place j).mv (sym c.in-Some.ensures.place j).path (pick_at c.in-Some.step) c.in-Some-tree_at.tree.now) ∙ sym c.covers_step.ensures ∙ c.if-not-covers_step.false) i && from w mv p (options_at w mv p) trees (c.options.at + 1));
      within = omega (arith, within);
    }

pub cover-returns-then-not-covers_step : goal.cover-returns-then-not-covers_step
cover-returns-then-not-covers_step g t c =
    let w = (place_of c.args.due).world in
    let mv = (place_of c.args.due).mv in
    let p = (place_of c.args.due).path in
    let trees = c.args.trees.now in
    sym (c.options.invariant.same
    ∙ cover-one w mv p (options_at w mv p) trees c.options.at (pick_at c.in-Some.step) c.in-Some-tree_at.tree.now (sym c.in-Some.ensures.value) (sym c.in-Some-tree_at.ensures.value)
    ∙ (λ i. ((λ j. covers_with (sym c.in-Some.ensures.place j).world (sym c.in-Some.ensures.place j).mv (sym c.in-Some.ensures.place j).path (pick_at c.in-Some.step) c.in-Some-tree_at.tree.now) ∙ sym c.covers_step.ensures ∙ c.if-not-covers_step.true) i && from w mv p (options_at w mv p) trees (c.options.at + 1)))

pub cover-returns-in-None : goal.cover-returns-in-None
cover-returns-in-None g t c =
    let w = (place_of c.args.due).world in
    let mv = (place_of c.args.due).mv in
    let p = (place_of c.args.due).path in
    let trees = c.args.trees.now in
    sym (c.options.invariant.same
    ∙ cover-none w mv p (options_at w mv p) trees c.options.at (pick_at c.in-Some.step) (sym c.in-Some.ensures.value) (sym c.tree_at.ensures.value ∙ ap option_copied c.in-None.is))

pub cover-returns : goal.cover-returns
cover-returns g t c =
    let w = (place_of c.args.due).world in
    let mv = (place_of c.args.due).mv in
    let p = (place_of c.args.due).path in
    sym (c.options.invariant.same
    ∙ cover-end w mv p (options_at w mv p) c.args.trees.now c.options.at (sym c.step_at.ensures.value ∙ ap (option_map pick_at) c.in_default.is) c.options.invariant.within)

pub covers_step-below-requires : goal.covers_step-below-requires
covers_step-below-requires g t c = sym c.node.ensures ∙ ap tree_of c.in-Split.is

pub cover-options-smaller : goal.cover-options-smaller
cover-options-smaller g t c =
    let within : c.options.at < length c.args.trees.now = slice_get_within c.args.trees.now c.options.at c.in-Some-tree_at.tree.now (sym c.in-Some-tree_at.ensures.value) in
    omega (arith, within)

-- the option is a course
pub covers_behind-returns-in-Course : goal.covers_behind-returns-in-Course
covers_behind-returns-in-Course g t c =
    let at = place_at c.args.step in
    let v : OnCourse = record { wanted = c.in-Course.wanted.now; course = c.in-Course.course } in
    let going = subst (λ q. is_complete q.mv q.path ≡ false) (ap place_at c.in-Course.is) (open-option at.world at.mv at.path (pick_at c.args.step) c.requires.option) in
    c.cover.ensures
    ∙ ap (λ v. cover_each v.wanted.world v.wanted.mv (course_path v) (options_at v.wanted.world v.wanted.mv (course_path v)) (trees_of c.args.trees.now)) c.new-on.ensures
    ∙ covered-open v.wanted.world v.wanted.mv (course_path v) c.args.trees.now going
    ∙ (λ i. covered_behind (place_at (sym c.in-Course.is i)) (pick_at (sym c.in-Course.is i)) c.args.trees.now)

-- the option is a reservation, or none
pub covers_behind-returns-in-Reservation : goal.covers_behind-returns-in-Reservation
covers_behind-returns-in-Reservation g t c =
    let at = place_at c.args.step in
    let v : Joined = record { on = c.in-Reservation.on.now; id = id_of c.in-Reservation.row } in
    let going = subst (λ q. is_complete q.mv q.path ≡ false) (ap place_at c.in-Reservation.is) (open-option at.world at.mv at.path (pick_at c.args.step) c.requires.option) in
    c.cover-in-Reservation.ensures
    ∙ ap (λ v. cover_each v.on.wanted.world v.on.wanted.mv (joined_path v) (options_at v.on.wanted.world v.on.wanted.mv (joined_path v)) (trees_of c.args.trees.now)) c.new-by.ensures
    ∙ covered-open v.on.wanted.world v.on.wanted.mv (joined_path v) c.args.trees.now going
    ∙ (λ i. covered_behind (place_at (sym c.in-Reservation.is i)) (pick_at (sym c.in-Reservation.is i)) c.args.trees.now)

-- the option is a configuration
pub covers_behind-returns-in-Config : goal.covers_behind-returns-in-Config
covers_behind-returns-in-Config g t c =
    let at = place_at c.args.step in
    let v : Configured = record { by = c.in-Config.by.now; config = c.in-Config.row.now.id; sections = [] } in
    let going = subst (λ q. is_complete q.mv q.path ≡ false) (ap place_at c.in-Config.is) (open-option at.world at.mv at.path (pick_at c.args.step) c.requires.option) in
    c.cover-in-Config.ensures
    ∙ ap (λ v. cover_each v.by.on.wanted.world v.by.on.wanted.mv (config_path v) (options_at v.by.on.wanted.world v.by.on.wanted.mv (config_path v)) (trees_of c.args.trees.now)) c.new-inside.ensures
    ∙ covered-open v.by.on.wanted.world v.by.on.wanted.mv (config_path v) c.args.trees.now going
    ∙ (λ i. covered_behind (place_at (sym c.in-Config.is i)) (pick_at (sym c.in-Config.is i)) c.args.trees.now)

-- the option is a section, behind which another is due
pub covers_behind-returns-in-None : goal.covers_behind-returns-in-None
covers_behind-returns-in-None g t c =
    let at = place_at c.args.step in
    let u = c.in-Section.inside.now in
    let w = u.by.on.wanted.world in
    let mv = u.by.on.wanted.mv in
    let section = c.in-Section.row.now.id in
    let v : Configured = record u { sections = u.sections ++ section ∷ [] } in
    let going = subst (λ q. is_complete q.mv q.path ≡ false) (ap place_at c.in-Section.is) (open-option at.world at.mv at.path (pick_at c.args.step) c.requires.option) in
    let on : extend w (config_path u) (Section section) ≡ config_path v = goes w u section (sym c.completed.ensures ∙ c.in-None.is) in
    c.cover-in-None.ensures
    ∙ ap (λ v. cover_each v.by.on.wanted.world v.by.on.wanted.mv (config_path v) (options_at v.by.on.wanted.world v.by.on.wanted.mv (config_path v)) (trees_of c.args.trees.now)) c.behind-next.ensures
    ∙ covered-open w mv (config_path v) c.args.trees.now going
    ∙ (λ i. covered w mv (sym on i) c.args.trees.now)
    ∙ (λ i. covered_behind (place_at (sym c.in-Section.is i)) (pick_at (sym c.in-Section.is i)) c.args.trees.now)
