-- The public contract determines its result, the header, both sides and the bytes: any two outcomes that meet it are equal. The contract is read
-- here as the checker reads it from the source (`Post`), not from a copy. Assumes nothing.
use Prim.Native.Nat.{ℕ}
use mathlib.Core.Path.{◌≡◌, sym, ◌∙◌}
use Rattle.std.specs.Prelude.{Result}
use Rattle.rules.specs.declared.Body.TheVariants as body
use Rattle.rules.specs.declared.Refusal.{Refusal}
use Rattle.rules.specs.Book.{Book}
use Rattle.side.specs.Answers.{body_answer}
use Rattle.side.proofs.tables.LawsAnswers.{left_determined}
use Rattle.quotes.proofs.quote.Reads as quote

pub quote_determined : (κs : _) (a : _) (r r' : Result ℕ Refusal) (s s' : _) → quote.Post κs a r s → quote.Post κs a r' s'
    → (r ≡ r')
    × (s.0.now ≡ s'.0.now)
    × (s.1.1.1.1.0.now ≡ s'.1.1.1.1.0.now)
    × (s.1.1.1.1.1.0.now ≡ s'.1.1.1.1.1.0.now)
    × (s.1.1.1.1.1.1.0.now ≡ s'.1.1.1.1.1.1.0.now)
quote_determined κs a r r' s s' p q =
    let b : Book = record { held = a.0.now; buys = a.1.1.1.1.0.now; sells = a.1.1.1.1.1.0.now } in
    let both = left_determined a.1.1.1.1.1.1.0.now (body_answer a.1.0 0 (body.Quote a.1.1.1.0) b) (p.0 0 b.held) (q.0 0 b.held) in
    (both.0, p.1 ∙ sym q.1, both.1, both.2, both.3)
