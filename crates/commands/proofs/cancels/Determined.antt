-- The contract of a cancel determines its result, both sides and the bytes: any two outcomes that meet it are equal. The contract is read here
-- as the checker reads it from the source (`Post`), not from a copy. Assumes nothing.
use Prim.Native.Nat.{ℕ}
use mathlib.Core.Path.{◌≡◌}
use Rattle.std.specs.Prelude.{Result}
use Rattle.kinds.specs.Kinds.{number}
use Rattle.rules.specs.declared.Refusal.{Refusal}
use Rattle.rules.specs.declared.Body.TheVariants as body
use Rattle.rules.specs.Book.{fresh}
use Rattle.side.specs.Answers.{body_answer}
use Rattle.side.proofs.tables.LawsAnswers.{left_determined}
use Rattle.commands.proofs.cancels.cancel.Reads as cancel

pub cancel_determined : (κs : _) (a : _) (r r' : Result ℕ Refusal) (s s' : _) → cancel.Post κs a r s → cancel.Post κs a r' s'
    → (r ≡ r') × (s.0.now ≡ s'.0.now) × (s.1.0.now ≡ s'.1.0.now) × (s.1.1.1.0.now ≡ s'.1.1.1.0.now)
cancel_determined κs a r r' s s' p q = left_determined _
    (body_answer (number 0) 0 (body.Cancel a.1.1.0) (record { held = fresh.held; buys = a.0.now; sells = a.1.0.now })) (p (number 0) 0 fresh.held) (q (number 0) 0 fresh.held)
