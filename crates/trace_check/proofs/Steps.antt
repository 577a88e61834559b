-- One step of reading numbers.
use Rattle.std.proofs.Common.{◌≡◌, ◌<◌, ◌≤◌, ℕ, length, take, drop, get_or, nat_eq, Bool, if◌then◌else◌, codes, zero, suc, ◌-◌, ◌==◌, List, [], ◌∷◌, ◌++◌, Option, Some, None, true, false, refl, ap, sym, ◌∙◌, arith, append_assoc}
use Rattle.std.proofs.lemmas.List.{append-nil, take_all, length-drop}
use Rattle.std.proofs.Math.Seq.{take-length}
use Rattle.std.specs.List.{starts_with}
use Rattle.trace_follow.specs.declared.opened.Opened.{Opened}
use Rattle.trace_check.specs.Reading.{◌>>=◌, number_at, numbers_at, with_front, opening_from, opening_at}

-- numbers in front of numbers in front
pub fronts_join : (front : List ℕ) (n : ℕ) (read : Option (List ℕ × List ℕ)) → with_front (front ++ n ∷ []) read ≡ with_front front (with_front (n ∷ []) read)
fronts_join front n None = refl
fronts_join front n (Some x) = ap (λ (ns : List ℕ). Some (ns, x.1)) (append_assoc front (n ∷ []) x.0)

-- the end of the line
pub numbers_end : (most : ℕ) (bs : List ℕ) → numbers_at most (10 ∷ bs) ≡ Some ([], bs)
unfolding numbers_at
numbers_end zero bs = refl
numbers_end (suc most) bs = refl

-- no more numbers may come
pub numbers_full : (b : ℕ) (bs : List ℕ) → (b == 10) ≡ false → numbers_at 0 (b ∷ bs) ≡ None
unfolding numbers_at
numbers_full b bs other = rw other refl

-- neither the end of the line nor a space
pub numbers_other : (most b : ℕ) (bs : List ℕ) → (b == 10) ≡ false → (b == 32) ≡ false → numbers_at most (b ∷ bs) ≡ None
unfolding numbers_at
numbers_other zero b bs line space = rw line refl
numbers_other (suc most) b bs line space = rw (line, space) refl

-- a space, and a number
pub numbers_more : (most : ℕ) (bs : List ℕ) → 0 < most → numbers_at most (32 ∷ bs) ≡ (number_at bs >>= (λ n. with_front (n.0 ∷ []) (numbers_at (most - 1) n.1)))
unfolding numbers_at
numbers_more zero bs some = absurd (omega arith)
numbers_more (suc most) bs some = let less : suc most - 1 ≡ most = omega arith in rw less refl

pub numbers_none : (most : ℕ) → numbers_at most [] ≡ None
unfolding numbers_at
numbers_none zero = refl
numbers_none (suc most) = refl

rest_is : (b : ℕ) (bs : List ℕ) → take (length (b ∷ bs) - 1) (drop 1 (b ∷ bs)) ≡ bs
rest_is b bs = let less : length (b ∷ bs) - 1 ≡ length bs = omega arith in ap (λ (n : ℕ). take n bs) less ∙ take-length bs

-- the first byte and the rest, as code has them
pub record IsSplit (bs : List ℕ) (first : ℕ) (rest : List ℕ) : Type 0 where
  pub is : bs ≡ first ∷ rest

pub split : (bs : List ℕ) → 1 ≤ length bs → bs ≡ get_or bs 0 0 ∷ take (length bs - 1) (drop 1 bs)
split [] some = absurd (omega (arith, some))
split (b ∷ bs) some = ap (λ (t : List ℕ). b ∷ t) (sym (rest_is b bs))

pub line_ends : (front : List ℕ) (most : ℕ) (bs : List ℕ) → 1 ≤ length bs → get_or bs 0 0 ≡ 10 → Some (front, take (length bs - 1) (drop 1 bs)) ≡ with_front front (numbers_at most bs)
line_ends front most bs some end =
    let whole : bs ≡ 10 ∷ take (length bs - 1) (drop 1 bs) = split bs some ∙ ap (λ (b : ℕ). b ∷ take (length bs - 1) (drop 1 bs)) end in
    sym (ap (λ (t : List ℕ). with_front front (numbers_at most t)) whole ∙ ap (with_front front) (numbers_end most (take (length bs - 1) (drop 1 bs)))
    ∙ ap (λ (t : List ℕ). Some (t, take (length bs - 1) (drop 1 bs))) (append-nil front))

-- a number stands behind a space
at_space : (front : List ℕ) (most : ℕ) (bs : List ℕ) → 1 ≤ length bs → get_or bs 0 0 ≡ 32 → 0 < most
    → with_front front (numbers_at most bs) ≡ with_front front (number_at (take (length bs - 1) (drop 1 bs)) >>= (λ n. with_front (n.0 ∷ []) (numbers_at (most - 1) n.1)))
at_space front most bs some space room =
    let whole : bs ≡ 32 ∷ take (length bs - 1) (drop 1 bs) = split bs some ∙ ap (λ (b : ℕ). b ∷ take (length bs - 1) (drop 1 bs)) space in
    ap (λ (t : List ℕ). with_front front (numbers_at most t)) whole ∙ ap (with_front front) (numbers_more most (take (length bs - 1) (drop 1 bs)) room)

pub no_number : (front : List ℕ) (most : ℕ) (bs : List ℕ) → 1 ≤ length bs → get_or bs 0 0 ≡ 32 → 0 < most → number_at (take (length bs - 1) (drop 1 bs)) ≡ None → with_front front (numbers_at most bs) ≡ None
no_number front most bs some space room none =
    at_space front most bs some space room ∙ ap (λ (o : Option (ℕ × List ℕ)). with_front front (o >>= (λ n. with_front (n.0 ∷ []) (numbers_at (most - 1) n.1)))) none

pub a_number : (front : List ℕ) (most : ℕ) (bs : List ℕ) (n : ℕ) (rest : List ℕ) → 1 ≤ length bs → get_or bs 0 0 ≡ 32 → 0 < most → number_at (take (length bs - 1) (drop 1 bs)) ≡ Some (n, rest)
    → with_front front (numbers_at most bs) ≡ with_front (front ++ n ∷ []) (numbers_at (most - 1) rest)
a_number front most bs n rest some space room is =
    at_space front most bs some space room ∙ ap (λ (o : Option (ℕ × List ℕ)). with_front front (o >>= (λ n. with_front (n.0 ∷ []) (numbers_at (most - 1) n.1)))) is
    ∙ sym (fronts_join front n (numbers_at (most - 1) rest))

pub at_end : (front : List ℕ) (most : ℕ) (bs : List ℕ) → length bs ≡ 0 → with_front front (numbers_at most bs) ≡ None
at_end front most [] none = ap (with_front front) (numbers_none most)
at_end front most (b ∷ bs) none = absurd (omega (arith, none))

-- the opening line was read
pub opened_so : (bs : List ℕ) (numbers rest : List ℕ) (o : Opened) → starts_with nat_eq bs (codes "pool") ≡ true → numbers_at 6 (drop 4 bs) ≡ Some (numbers, rest) → opening_from numbers ≡ Some o → opening_at bs ≡ Some (o, rest)
unfolding opening_at
opened_so bs numbers rest o starts read from =
    ap (λ (t : Bool). if t then (numbers_at 6 (drop 4 bs) >>= (λ ns. (opening_from ns.0 >>= (λ o. Some (o, ns.1))))) else None) starts
    ∙ ap (λ (r : Option (List ℕ × List ℕ)). r >>= (λ ns. (opening_from ns.0 >>= (λ o. Some (o, ns.1))))) read
    ∙ ap (λ (r : Option Opened). r >>= (λ o. Some (o, rest))) from

-- what stands behind so many bytes, as code has it
pub rest_of : (n : ℕ) (bs : List ℕ) → take (length bs - n) (drop n bs) ≡ drop n bs
rest_of n bs = take_all (length bs - n) (drop n bs) (omega (arith, length-drop n bs))
