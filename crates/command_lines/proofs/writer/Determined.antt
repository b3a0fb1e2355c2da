-- Each public contract determines its result and its bytes: any two outcomes that meet it are equal. A contract is read here
-- as the checker reads it from the source (`Post`), not from a copy. Assumes nothing.
use Prim.Native.Nat.{ℕ}
use mathlib.Core.Path.{◌≡◌, sym, ◌∙◌}
use Rattle.std.specs.Prelude.{Result}
use Rattle.rules.specs.declared.Refusal.{Refusal}
use Rattle.command_lines.proofs.writer.write_command.Reads as write-command

pub write_command_determined : (κs : _) (a : _) (r r' : Result ℕ Refusal) (s s' : _) → write-command.Post κs a r s → write-command.Post κs a r' s' → (r ≡ r') × (s.1.0.now ≡ s'.1.0.now)
write_command_determined κs a r r' s s' p q = (p.0 ∙ sym q.0, p.1.0 ∙ sym q.1.0)
