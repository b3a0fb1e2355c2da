-- Every public contract of the lent table determines its result, the table and the bytes: any two outcomes that meet it are equal. A
-- contract is read here as the checker reads it from the source (`Post`), not from a copy. Assumes nothing.
use mathlib.Core.Path.{◌≡◌, sym, ◌∙◌}
use Rattle.book.specs.declared.Reply.{Reply}
use Rattle.lent.proofs.answer.Reads as answer
use Rattle.lent.proofs.answer_lending.Reads as lending

pub answer_lending_determined : (κs : _) (a : _) (r r' : Reply) (s s' : _) → lending.Post κs a r s → lending.Post κs a r' s'
    → (r ≡ r') × (s.1.1.1.0.now ≡ s'.1.1.1.0.now)
answer_lending_determined κs a r r' s s' p q = (p.0 ∙ sym q.0, p.1 ∙ sym q.1)

pub answer_determined : (κs : _) (a : _) (r r' : Reply) (s s' : _) → answer.Post κs a r s → answer.Post κs a r' s'
    → (r ≡ r') × (s.1.1.0.now ≡ s'.1.1.0.now) × (s.1.1.1.1.0.now ≡ s'.1.1.1.1.0.now)
answer_determined κs a r r' s s' p q = (p.0 ∙ sym q.0, p.1 ∙ sym q.1, p.2 ∙ sym q.2)
