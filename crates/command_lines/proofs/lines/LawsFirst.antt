-- The first line of some bytes, where it is read before its line feed is looked for: the bytes of a command hold no line feed but
-- their last, and how many they are is told by the second of them. Assumes nothing.
use Prim.Native.Nat.{ℕ, suc, ◌+◌, ◌≤◌, ◌<◌}
use mathlib.Core.Bool.{true, false, true≢false}
use mathlib.Core.List.{List, [], ◌∷◌, ◌++◌, append_assoc}
use mathlib.Core.Logic.{⊎_elim}
use mathlib.Core.Path.{◌≡◌, refl, sym, ap, ◌∙◌}
use lib.ListN.{length, get_or, take, drop, length-append, take-append-drop}
use lib.Seq.{get_or-take, length-take-le, take_all}
use native.Mathlib.Omega.{arith}
use Rattle.basics.specs.Lists.{none, also, first_where}
use Rattle.basics.proofs.LawsLists.{all_both}
use Rattle.basics.proofs.LawsChoice.{holds_or_not, lt_or_le}
use Rattle.digits.specs.Digits.{digits}
use Rattle.rules.specs.declared.Body.{Body}
use Rattle.rules.specs.declared.Body.TheVariants.{Order, Cancel, Quote, Close}
use Rattle.rules.specs.declared.Carried.{Carried}
use Rattle.rules.specs.declared.Carried.TheVariants.{Nothing, MaxFloor, Minimum}
use Rattle.rules.specs.declared.Command.{Command}
use Rattle.rules.specs.CommandLines.{Reading}
use Rattle.rules.specs.CommandLines.{kinds, line_feed, header_form, order_kind_of, order_form_of, kind_of, form_of, numbers_of}
use Rattle.rules.specs.CommandLines.{digits_with_header, written, line, line_of, command_in}
use Rattle.rules.proofs.LawsLines.{command_in_is}
use Rattle.rules.proofs.LawsUnended.{Unended, written_unended}
use Rattle.rules.proofs.LawsWriting.{length_line_of}
use Rattle.command_lines.specs.declared.lines.Line.{Line}
use Rattle.command_lines.specs.Lines.{is_line_feed, to_line_feed, first_line, other_line, digits_from, digits_after}
use Rattle.command_lines.proofs.lines.LawsScanned.{unended_bad}
use Rattle.std.specs.Prelude.{Some, None}

-- ── The line feed of a command ──

-- all bytes of a command's line but the last
abbrev inside : Command → List ℕ
inside c = written header_form (kind_of c.body ∷ c.number.0 ∷ c.time ∷ []) ++ written (form_of c.body) (numbers_of c.body)

line_inside : (c : Command) → line_of c ≡ inside c ++ (line_feed ∷ [])
unfolding line_of
line_inside c = sym (append_assoc (written header_form (kind_of c.body ∷ c.number.0 ∷ c.time ∷ [])) (written (form_of c.body) (numbers_of c.body)) (line_feed ∷ []))

first_feed : (s rest : List ℕ) → Unended s → to_line_feed (s ++ (line_feed ∷ rest)) ≡ length s
unfolding first_where
first_feed [] rest none = refl
first_feed (c ∷ s) rest (also e a) = rw e (ap suc (first_feed s rest a))

-- bytes that read as a command end at the first line feed
command_feed : (s : List ℕ) (n : ℕ) (c : Command) → n < length s → command_in (take (suc n) s) ≡ Some c → to_line_feed s ≡ n
command_feed s n c l is =
    let line : take (suc n) s ≡ inside c ++ (line_feed ∷ []) = (command_in_is (take (suc n) s) c is).line_is_lem ∙ line_inside c in
    let whole : s ≡ inside c ++ (line_feed ∷ drop (suc n) s) =
    sym (take-append-drop (suc n) s) ∙ ap (λ (x : List ℕ). x ++ drop (suc n) s) line ∙ append_assoc (inside c) (line_feed ∷ []) (drop (suc n) s) in
    let long : suc n ≡ length (inside c) + 1 =
    sym (length-take-le (suc n) s (omega arith)) ∙ ap length line ∙ length-append (inside c) (line_feed ∷ []) in
    let unended : Unended (inside c) =
    all_both (written_unended header_form (kind_of c.body ∷ c.number.0 ∷ c.time ∷ [])) (written_unended (form_of c.body) (numbers_of c.body)) in
    ap to_line_feed whole ∙ first_feed (inside c) (drop (suc n) s) unended ∙ omega (arith, long)

pub first_command : (s : List ℕ) (n : ℕ) (c : Command) → n < length s → command_in (take (suc n) s) ≡ Some c
    → record { digits = n; reading = Some c } ≡ first_line s
first_command s n c l is = rw (command_feed s n c l is) (ap (λ (r : Reading). at_place n r) (sym is))
  where
    at_place : ℕ → Reading → Line
    at_place n r = record { digits = n; reading = r }

-- ── The length of a command ──

-- the second digit of a command tells how many it has
second_tells : (c : Command) → digits_after (get_or (line_of c) 1 0) ≡ digits_with_header (form_of c.body)
unfolding line_of written digits digits_after digits_from kinds
second_tells c = by_body_lem c.body
  where
    by_carried : (x : Carried) (rest : List ℕ)
        → digits_after (get_or (written header_form (order_kind_of x ∷ c.number.0 ∷ c.time ∷ []) ++ rest) 1 0) ≡ digits_with_header (order_form_of x)
    by_carried Nothing rest = refl
    by_carried (MaxFloor floor) rest = refl
    by_carried (Minimum least) rest = refl

    by_body_lem : (b : Body) → digits_after (get_or (line_of (record { number = c.number; time = c.time; body = b })) 1 0) ≡ digits_with_header (form_of b)
    by_body_lem (Order o) = by_carried o.carried (line (form_of (Order o)) (numbers_of (Order o)))
    by_body_lem (Cancel n) = refl
    by_body_lem (Quote a) = refl
    by_body_lem Close = refl

-- no line feed among the bytes
feed_nowhere : (s : List ℕ) → length s ≤ to_line_feed s → Unended s
unfolding first_where
feed_nowhere [] l = none
feed_nowhere (c ∷ s) l =
    ⊎_elim
    (λ (t : is_line_feed c ≡ true). let l' : suc (length s) ≤ 0 = rw t at l in let z : ⊥ = omega arith in absurd z)
    (λ (t : is_line_feed c ≡ false). let l' : suc (length s) ≤ suc (to_line_feed s) = rw t at l in also t (feed_nowhere s (omega arith)))
    (holds_or_not (is_line_feed c))

-- where the first line is a command, its second byte tells its length, and it is not the last of the bytes by itself
told : (s : List ℕ) (c : Command) → command_in (take (suc (to_line_feed s)) s) ≡ Some c
    → (to_line_feed s < length s) × (digits_after (get_or s 1 0) ≡ to_line_feed s) × (1 < length s)
told s c is =
    let e = to_line_feed s in
    let line : take (suc e) s ≡ line_of c = (command_in_is (take (suc e) s) c is).line_is_lem in
    ⊎_elim
    (λ (l : e < length s).
    let long : suc e ≡ digits_with_header (form_of c.body) + 1 = sym (length-take-le (suc e) s (omega arith)) ∙ ap length line ∙ length_line_of c in
    let second : get_or s 1 0 ≡ get_or (line_of c) 1 0 = sym (get_or-take (suc e) s 1 0 (omega (arith, long))) ∙ ap (λ (x : List ℕ). get_or x 1 0) line in
    (l, ap digits_after second ∙ second_tells c ∙ omega (arith, long), omega (arith, long, l)))
    (λ (l : length s ≤ e).
    let all : take (suc e) s ≡ s = take_all (suc e) s (omega arith) in
    let bad : command_in (take (suc e) s) ≡ None = rw all (unended_bad s (feed_nowhere s l)) in
    let z : None ≡ Some c = sym bad ∙ is in let y : true ≡ false = cc in absurd (true≢false y))
    (lt_or_le e (length s))

-- so the first line is none where the bytes that its second digit tells are none
pub first_other : (s : List ℕ) → (1 < length s → digits_after (get_or s 1 0) < length s → command_in (take (suc (digits_after (get_or s 1 0))) s) ≡ None)
    → other_line s ≡ first_line s
first_other s never = ap (λ (r : Reading). at_place r) (sym (by_reading (command_in (take (suc (to_line_feed s)) s)) refl))
  where
    at_place : Reading → Line
    at_place r = record { digits = to_line_feed s; reading = r }

    by_reading : (r : Reading) → command_in (take (suc (to_line_feed s)) s) ≡ r → command_in (take (suc (to_line_feed s)) s) ≡ None
    by_reading None e = e
    by_reading (Some c) e =
        let t = told s c e in
        let same : digits_after (get_or s 1 0) ≡ to_line_feed s = t.1 in
        ap (λ (k : ℕ). command_in (take (suc k) s)) (sym same) ∙ never t.2 (omega (arith, same, t.0))
