-- `Book::respond` meets its contract: refusals 1 and 2 come first, then 3, and then the command. Assumes nothing.
use mathlib.Core.Path.{refl, sym, ◌∙◌}
use Rattle.book.specs.Record.{record_in}
use Rattle.book.proofs.LawsStep.{step_no_room, step_unsound}
use Rattle.book.proofs.Book.respond.Goals as goal

pub returns-then-short : goal.returns-then-short
returns-then-short c =
    let a = c.args in
    rw (step_no_room (record_in a.self.now) a.out.now a.reading c.if-short.true) (refl, refl, refl)

pub returns-then-not-sound : goal.returns-then-not-sound
returns-then-not-sound c =
    let a = c.args in
    rw (step_unsound (record_in a.self.now) a.out.now c.if-short.false a.reading (sym c.is_sound-sound.ensures ∙ c.if-not-sound.true)) (refl, refl, refl)
