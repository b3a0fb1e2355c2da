-- `commands::carry_out` meets its contract: a cancel that is not refused leaves its number and its time in the header, and a close these with
-- a closed book. Assumes nothing.
use mathlib.Core.Path.{sym, ◌∙◌}
use Rattle.rules.specs.declared.Body.TheVariants as body
use Rattle.rules.specs.Book.{Book}
use Rattle.side.proofs.tables.LawsAnswers.{header_done, header_kept}
use Rattle.commands.proofs.LawsCommand.{does_held}
use Rattle.commands.proofs.carry_out.Goals as goal
use Rattle.commands.proofs.carry_out.Goals.{Start}

abbrev book : Start → Book
book s = record { held = s.args.held.now; buys = s.args.buys.now; sells = s.args.sells.now }

-- ── A cancel ──

pub returns-in_err-length-in-Cancel-clause-header : goal.returns-in_err-length-in-Cancel-clause-header
returns-in_err-length-in-Cancel-clause-header c =
    let n = c.args.c.number in
    let time = c.args.c.time in
    let of = c.in-Cancel.of in
    let b = book (goal.at.returns-in_err-length-in-Cancel-clause-header c).Start in
    let told = sym c.in_err-length-in-Cancel.was ∙ (c.cancel.ensures n time b.held).0 in
    rw c.in-Cancel.is (sym (header_kept n time (body.Cancel of) b _ c.in_err-length-in-Cancel.field-0.0 told))

pub returns-in_ok-length-in-Cancel-clause-header : goal.returns-in_ok-length-in-Cancel-clause-header
returns-in_ok-length-in-Cancel-clause-header c =
    let n = c.args.c.number in
    let time = c.args.c.time in
    let of = c.in-Cancel.of in
    let b = book (goal.at.returns-in_ok-length-in-Cancel-clause-header c).Start in
    let told = sym c.in_ok-length-in-Cancel.was ∙ (c.cancel.ensures n time b.held).0 in
    let done = header_done n time (body.Cancel of) b _ c.in_ok-length-in-Cancel.length told in
    rw c.in-Cancel.is (c.accepted.ensures ∙ sym (done ∙ does_held n time b (body.Cancel of)))

-- ── A close ──

pub returns-in-Close-clause-header : goal.returns-in-Close-clause-header
returns-in-Close-clause-header c =
    let n = c.args.c.number in
    let time = c.args.c.time in
    let b = book (goal.at.returns-in-Close-clause-header c).Start in
    let done = header_done n time body.Close b _ c.close-length.result (c.close-length.ensures n time b.held).0 in
    rw (c.in-Close.is, c.accepted-in-Close.ensures) (sym (done ∙ does_held n time b body.Close))
