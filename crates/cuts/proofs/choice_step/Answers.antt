-- `cuts::choice_step` meets its contract.
use mathlib.Core.Path.{sym, ap, ◌∙◌}
use Rattle.std.specs.Prelude.{Err}
use lib.ListN.{length}
use Rattle.hexadecimal.specs.Hexadecimal.{choice_of}
use Rattle.cuts.proofs.Choices.{people_told, people_most, choice_bad, choice_room}
use Rattle.cuts.proofs.choice_step.Goals as goal

pub release_step-requires : goal.release_step-requires
release_step-requires c =
    let a = c.args in
    (people_most (length a.choice.now) a.line.now _ (sym c.read_choice.ensures.told ∙ c.in-Ok.is), c.requires.1)

pub returns-in-Ok : goal.returns-in-Ok
returns-in-Ok c =
    let a = c.args in
    let e = people_told (length a.choice.now) (choice_of a.line.now) a.facts _ (sym c.read_choice.ensures.told ∙ c.in-Ok.is) in
    let p = c.release_step.ensures in
    record {
      value = rw (e.0, e.1) p.value;
      step_inside = p.step_inside;
      out_after = rw e.1 p.out_after;
      choice_after = c.read_choice.ensures.written;
    }

pub returns-in-Err-Bad : goal.returns-in-Err-Bad
returns-in-Err-Bad c =
    let a = c.args in
    let e = choice_bad (length a.choice.now) (choice_of a.line.now) (sym c.read_choice.ensures.told ∙ c.in-Err-Bad.is ∙ ap Err c.in-Err-Bad.field-0-is) in
    let p = c.bad_step.ensures in
    record { value = rw e p.value; step_inside = p.step_inside; out_after = rw e p.out_after; choice_after = c.read_choice.ensures.written }

pub returns-in-Err-NoRoom : goal.returns-in-Err-NoRoom
returns-in-Err-NoRoom c =
    let a = c.args in
    absurd (choice_room (length a.choice.now) a.line.now c.requires.0 (sym c.read_choice.ensures.told ∙ c.in-Err-NoRoom.is ∙ ap Err c.in-Err-NoRoom.field-0-is))
