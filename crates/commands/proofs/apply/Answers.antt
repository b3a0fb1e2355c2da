-- `commands::apply` meets its contract: the header is judged first, and then the body does its work on the header and the two sides. Assumes
-- nothing.
use mathlib.Core.Bool.{true}
use mathlib.Core.Path.{◌≡◌, sym, ap, subst, ◌∙◌}
use Rattle.std.proofs.lemmas.Result.{err_from_is_err_and}
use Rattle.std.specs.Prelude.{Result, Err}
use Rattle.rules.specs.declared.Command.{Command}
use Rattle.rules.specs.declared.Refusal.{Refusal}
use Rattle.rules.specs.Book.{Book, sound}
use Rattle.side.specs.Answers.{answer_of}
use Rattle.commands.proofs.LawsCommand.{Leaves, command_sound, header_refused, header_next, left_by_body}
use Rattle.commands.proofs.apply.Goals as goal
use Rattle.commands.proofs.apply.Goals.{After-from_residual, After-carry_out}

-- the sound book that a command finds, and what it leaves of it, said of any book equal to it
module _ (c : Command) {b b' : Book} (is : b ≡ b') where
  left_of : {r : Result _ Refusal} {after : Book} {out' out : _} → Leaves r after out' out (answer_of c b) → Leaves r after out' out (answer_of c b')
  left_of {r} {after} {out'} {out} = subst (λ (x : Book). Leaves r after out' out (answer_of c x)) is

  sound_after : {after : Book} → sound b ≡ true → after ≡ (answer_of c b').book → sound after ≡ true
  sound_after s e = subst (λ (x : Book). sound x ≡ true) (sym e) (command_sound c b' (subst (λ (x : Book). sound x ≡ true) is s))

-- ── Refused by its header ──

by_header : (c : After-from_residual) → Leaves c.from_residual.result c.args.book.now c.args.out.now c.args.out.now (answer_of c.args.c c.args.book.now)
by_header c =
    let a = c.args in
    let b : Book = record { held = c.book.inside.held; buys = c.book.inside.buys; sells = c.book.inside.sells } in
    let p = err_from_is_err_and c.from_residual.result c.from_residual.ensures.1 in
    let left = left_of a.c c.book.view_is (header_refused a.c b c.in_err-header.field-0.0 a.out.now (sym c.in_err-header.was ∙ c.header.ensures)) in
    record {
      value = p.1 ∙ ap (λ (e : Refusal). Err e) p.2 ∙ left.value;
      book_after = sym c.book.view_is ∙ left.book_after;
      out_after = left.out_after;
    }

pub returns-in_err-header-clause-value : goal.returns-in_err-header-clause-value
returns-in_err-header-clause-value c = (by_header c).value

pub returns-in_err-header-clause-book_after : goal.returns-in_err-header-clause-book_after
returns-in_err-header-clause-book_after c = (by_header c).book_after

pub returns-in_err-header-clause-out_after : goal.returns-in_err-header-clause-out_after
returns-in_err-header-clause-out_after c = (by_header c).out_after

-- ── By its body ──

pub carry_out-requires-clause-next : goal.carry_out-requires-clause-next
carry_out-requires-clause-next c =
    header_next c.args.c (record { held = c.book.inside.held; buys = c.book.inside.buys; sells = c.book.inside.sells }) c.in_ok-header.ensures

module _ (c : After-carry_out) where
  abbrev after : Book
  after = record { held = c.carry_out.new.held; buys = c.carry_out.new.buys; sells = c.carry_out.new.sells }

  by_body : Leaves c.carry_out.result after c.carry_out.new.out c.args.out.now (answer_of c.args.c c.args.book.now)
  by_body =
      let b : Book = record { held = c.book.inside.held; buys = c.book.inside.buys; sells = c.book.inside.sells } in
      left_of c.args.c c.book.view_is
      (left_by_body c.args.c b c.in_ok-header.ensures _ _ _ _ _ _ c.carry_out.ensures.sides c.carry_out.ensures.header)

pub invariant_of-book : goal.invariant_of-book
invariant_of-book c =
    sound_after c.args.c c.book.view_is c.book.invariant (by_body (goal.at.invariant_of-book c).After-carry_out).book_after

pub returns-clause-value : goal.returns-clause-value
returns-clause-value c = (by_body (goal.at.returns-clause-value c).After-carry_out).value

pub returns-clause-book_after : goal.returns-clause-book_after
returns-clause-book_after c = (by_body (goal.at.returns-clause-book_after c).After-carry_out).book_after

pub returns-clause-out_after : goal.returns-clause-out_after
returns-clause-out_after c = (by_body (goal.at.returns-clause-out_after c).After-carry_out).out_after
