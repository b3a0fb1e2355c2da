-- Each public contract determines what its function leaves: any two outcomes that meet it are equal. A contract is read here as the
-- checker reads it from the source (`Post`), not from a copy. Assumes nothing.
use Prim.Native.Nat.{ℕ}
use mathlib.Core.Path.{◌≡◌, sym, ◌∙◌}
use Rattle.command_lines.specs.declared.lines.Line.{Line}
use Rattle.command_lines.specs.declared.lines.Read.{Read}
use Rattle.command_lines.proofs.lines.scan_line.Reads as scan
use Rattle.command_lines.proofs.lines.first_line.Reads as first
use Rattle.command_lines.proofs.lines.carry.Reads as carry
use Rattle.command_lines.proofs.lines.after_read.Reads as read

pub scan_line_determined : (κs : _) (a : _) (r r' : ℕ) (s s' : _) → scan.Post κs a r s → scan.Post κs a r' s' → r ≡ r'
scan_line_determined κs a r r' s s' p q = p ∙ sym q

pub first_line_determined : (κs : _) (a : _) (r r' : Line) (s s' : _) → first.Post κs a r s → first.Post κs a r' s' → r ≡ r'
first_line_determined κs a r r' s s' p q = p ∙ sym q

pub carry_determined : (κs : _) (a : _) (r r' : ℕ) (s s' : _) → carry.Post κs a r s → carry.Post κs a r' s' → (r ≡ r') × (s.0.now ≡ s'.0.now)
carry_determined κs a r r' s s' p q = (p.0 ∙ sym q.0, p.1 ∙ sym q.1)

pub after_read_determined : (κs : _) (a : _) (r r' : Read) (s s' : _) → read.Post κs a r s → read.Post κs a r' s' → r ≡ r'
after_read_determined κs a r r' s s' p q = p ∙ sym q
