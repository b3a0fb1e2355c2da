-- `event_lines::reader::read_event` meets its contract: the kind is judged from two bytes on, then the line's ending. Assumes nothing.
use mathlib.Core.Path.{◌≡◌, sym, ◌∙◌}
use borrow.Author.Rules.{rules}
use Rattle.std.specs.Prelude.{Some, None, Err}
use Rattle.rules.specs.declared.NoEvent.TheVariants.{UnknownKind}
use Rattle.rules.specs.EventReading.{event_in}
use Rattle.event_lines.specs.Ended.{ended}
use Rattle.event_lines.specs.Forms.{event_of_kind}
use Rattle.event_lines.proofs.reader.LawsEventReader.{where_ended, event_in_short, event_in_bad, event_in_kind}
use Rattle.event_lines.proofs.reader.read_event.Goals as goal
use Rattle.event_lines.proofs.reader.read_event.Goals.{After-length}

pub returns-then-s-lt2 : goal.returns-then-s-lt2
returns-then-s-lt2 c = sym (event_in_short _ c.if-s-lt2.true)

pub returns-in_err-number : goal.returns-in_err-number
returns-in_err-number c =
    let bad : c.from_residual.result ≡ Err UnknownKind = search rules in
    bad ∙ sym (event_in_bad c.args.s.now c.if-s-lt2.false (sym c.field_at.ensures ∙ c.in_err-number.ensures.ok_part))

pub returns-in_err-kind : goal.returns-in_err-kind
returns-in_err-kind c =
    let bad : c.from_residual-in_err-kind.result ≡ Err UnknownKind = search rules in
    let read = sym c.field_at.ensures ∙ c.in_ok-number.ensures.ok_part in
    bad ∙ sym (event_in_kind c.args.s.now c.if-s-lt2.false c.in_ok-number.number None read (sym c.numbered.ensures ∙ c.in_err-kind.ensures.ok_part))

-- a line of a kind is judged by its ending
module _ (c : After-length) where
  of_a_kind : event_in c.args.s.now ≡ where_ended (ended c.length.result c.args.s.now) (event_of_kind c.in_ok-kind.kind c.args.s.now)
  of_a_kind =
      let read = sym c.field_at.ensures ∙ c.in_ok-number.ensures.ok_part in
      let kind = sym c.numbered.ensures ∙ c.in_ok-kind.ensures.ok_part in
      rw c.length.ensures (event_in_kind c.args.s.now c.if-s-lt2.false c.in_ok-number.number (Some c.in_ok-kind.kind) read kind)

pub returns-in_err-ended : goal.returns-in_err-ended
returns-in_err-ended c =
    let why = c.in_err-ended.field-0.0 in
    let bad : c.from_residual-in_err-ended.result ≡ Err why = search rules in
    bad ∙ sym (rw (← c.in_err-ended.ensures) at (of_a_kind (goal.at.returns-in_err-ended c).After-length))

pub returns : goal.returns
returns c = c.read_fields.ensures ∙ sym (rw (← c.in_ok-ended.ensures) at (of_a_kind (goal.at.returns c).After-length))
