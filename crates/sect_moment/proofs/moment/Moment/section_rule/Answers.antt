-- the section is the offering's own, and its table is in three parts
use Rattle.std.proofs.Common.{◌≡◌, ◌++◌, sym, ◌∙◌, Option, Some, None}
use Rattle.std.specs.Prelude.{ℕ, List, option_copied}
use Rattle.sect_model.specs.Data.{StudentId, CourseId, ConfigId, SectionId, OfferingRow, Want, Reservation, Rule}
use Rattle.sect_model.specs.World.{World}
use Rattle.sect_model.specs.Rules.{first_broken, section_rules}
use Rattle.sect_moment.specs.Tables.{standing_rules, space_rules, time_rules}
use Rattle.sect_moment.proofs.OwnLemmas.{section-own, sections-few}
use Rattle.sect_moment.proofs.LeastLemmas.{first-found, first-next}
use Rattle.sect_moment.proofs.moment.Moment.section_rule.Goals as goal

module _ (v : World) (st : StudentId) (want : Want) (course : CourseId) (config : ConfigId) (sections : List SectionId) (section : SectionId) where
  -- the table of an offering and a reservation
  abbrev table : OfferingRow → Option Reservation → List (Rule × Option ℕ)
  table o r = section_rules v st want o course r config sections section

  abbrev standing : OfferingRow → Option Reservation → List (Rule × Option ℕ)
  standing o r = standing_rules v st o course r config sections section

  in-standing : (o : OfferingRow) (r : Option Reservation) (l : Rule × ℕ) → Some l ≡ first_broken (standing o r) → Some l ≡ first_broken (table o r)
  in-standing o r l h = first-found (standing o r) (space_rules v r section ++ time_rules v st want r sections section) l h

  in-space : (o : OfferingRow) (r : Option Reservation) (l : Rule × ℕ) → None ≡ first_broken (standing o r) → Some l ≡ first_broken (space_rules v r section) → Some l ≡ first_broken (table o r)
  in-space o r l n h =
      first-found (space_rules v r section) (time_rules v st want r sections section) l h
      ∙ first-next (standing o r) (space_rules v r section ++ time_rules v st want r sections section) n

  in-time : (o : OfferingRow) (r : Option Reservation) → None ≡ first_broken (standing o r) → None ≡ first_broken (space_rules v r section)
      → first_broken (time_rules v st want r sections section) ≡ first_broken (table o r)
  in-time o r n m =
      first-next (space_rules v r section) (time_rules v st want r sections section) m
      ∙ first-next (standing o r) (space_rules v r section ++ time_rules v st want r sections section) n

pub standing_rule-requires : goal.standing_rule-requires
standing_rule-requires c = record {
  ground = c.requires.ground;
  offering = c.requires.offering;
  bound = sections-few c.args.self.now.at c.recall_kept.ensures.checked c.args.course c.args.config c.args.sections.now c.args.row.now.id c.requires.own;
  row = c.requires.row;
}

pub space_rule-requires : goal.space_rule-requires
space_rule-requires c = record {
  rows = c.requires.ground.reservations;
  own = section-own c.args.self.now.at c.recall_kept.ensures.checked c.args.course c.args.config c.args.sections.now c.args.row.now.id c.args.ground.now.offering.now c.recall_kept.ensures.fit
      c.requires.offering c.requires.own;
  row = c.requires.row;
}

pub returns-in-Some : goal.returns-in-Some
returns-in-Some c =
    let a = c.args in
    in-standing a.self.now.at a.self.now.student a.want.now a.course a.config a.sections.now a.row.now.id a.ground.now.offering.now (option_copied a.r) c.in-Some.rule c.in-Some.ensures

pub returns-in-Some-space_rule : goal.returns-in-Some-space_rule
returns-in-Some-space_rule c =
    let a = c.args in
    in-space a.self.now.at a.self.now.student a.want.now a.course a.config a.sections.now a.row.now.id a.ground.now.offering.now (option_copied a.r) c.in-Some-space_rule.rule
    (sym c.in_default.is ∙ c.standing_rule.ensures) c.in-Some-space_rule.ensures

pub returns : goal.returns
returns c =
    let a = c.args in
    c.time_rule.ensures
    ∙ (λ i. first_broken (time_rules a.self.now.at a.self.now.student a.want.now (option_copied a.r) (c.as_slice.ensures i) a.row.now.id))
    ∙ in-time a.self.now.at a.self.now.student a.want.now a.course a.config a.sections.now a.row.now.id a.ground.now.offering.now (option_copied a.r)
    (sym c.in_default.is ∙ c.standing_rule.ensures) (sym c.in_default-space_rule.is ∙ c.space_rule.ensures)
