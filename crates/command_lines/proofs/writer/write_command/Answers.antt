-- `command_lines::writer::write_command` meets its contract: the header's digits stand at the front, and the body is written to the
-- part of the buffer behind them. Assumes nothing.
use Prim.Native.Nat.{◌+◌, ◌≤◌, ◌<◌}
use mathlib.Core.List.{[], ◌∷◌, ◌++◌}
use mathlib.Core.Path.{◌≡◌, ap, ◌∙◌}
use lib.ListN.{length}
use native.Mathlib.Omega.{arith}
use borrow.Author.Tests.{lt-ltb, le-ltb}
use Rattle.std.specs.Prelude.{Some}
use Rattle.basics.specs.Bytes.{onto, onto_from}
use Rattle.basics.proofs.LawsBytes.{onto_next, onto_part}
use Rattle.rules.specs.CommandLines.{command_in, digits_in, form_of, written, line, numbers_of, header_form, kind_of, line_of}
use Rattle.rules.proofs.LawsLines.{command_in_line_of, header_fits}
use Rattle.rules.proofs.LawsWriting.{length_line_of, length_written, header_paired}
use Rattle.command_lines.specs.Writing.{written_for, buffer_of}
use Rattle.command_lines.specs.Forms.{code_of}
use Rattle.command_lines.proofs.writer.write_command.Goals as goal
use Rattle.command_lines.proofs.writer.write_command.Goals.{After-digits}

module _ (c : After-digits) where
  -- the command's fields fit, so its line reads back
  reads_back : command_in (line_of c.args.c) ≡ Some c.args.c
  reads_back =
      let a = c.args in
      command_in_line_of a.c (record { header = header_fits a.c (omega arith) (omega arith); body = c.of-kind.ensures.fitting })

  -- the line's length is told by the body's kind
  long : length (line_of c.args.c) ≡ 18 + c.digits.result + 1
  long =
      let d : c.digits.result ≡ digits_in (form_of c.args.c.body) = c.digits.ensures ∙ ap digits_in c.of-kind.ensures.form in
      omega (arith, length_line_of c.args.c)

pub returns-then-out-length : goal.returns-then-out-length
unfolding written_for buffer_of
returns-then-out-length c =
    let a = c.args in
    let here = (goal.at.returns-then-out-length c).After-digits in
    let short : length a.out.now < length (line_of a.c) = omega (arith, long here) in
    record { value = rw (lt-ltb _ _ short); out_after = rw (lt-ltb _ _ short); c_value = reads_back here }

pub returns : goal.returns
unfolding written_for buffer_of line_of
returns c =
    let a = c.args in
    let b = a.c.body in
    let out = a.out.now in
    let here = (goal.at.returns c).After-digits in
    let header = written header_form (kind_of b ∷ a.c.number.0 ∷ a.c.time ∷ []) in
    let body = line (form_of b) (numbers_of b) in
    let whole : length (line_of a.c) ≡ 18 + c.digits.result + 1 = long here in
    let room : length (line_of a.c) ≤ length out = omega (arith, c.if-out-length.false) in
    let kind : code_of c.of-kind.result ≡ kind_of b = c.of-kind.ensures.code in
    let x : c.write_header.new.out ≡ onto header out = rw kind at c.write_header.ensures in
    let joined : onto_from 18 body (onto header out) ≡ onto (header ++ body) out =
    onto_next header body out 18 (length_written (header_paired (kind_of b) a.c.number.0 a.c.time)) in
    record {
      value = rw (le-ltb _ _ room, whole);
      out_after = onto_part 18 body c.write_header.new.out c.write_body.new.out c.write_body.ensures
          ∙ rw (le-ltb _ _ room, x) joined;
      c_value = reads_back here;
    }
