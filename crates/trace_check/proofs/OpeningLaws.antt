-- The line of opening data is read as it is written, and nothing else is. Neither is the last line.
use Rattle.std.proofs.Common.{◌≡◌, ◌==◌, ℕ, List, [], ◌∷◌, ◌++◌, length, drop, codes, nat_eq, Option, Some, None, Bool, true, false, if◌then◌else◌, refl, ap, sym, ◌∙◌, subst, arith, append_assoc, eqb-true}
use Rattle.std.specs.List.{starts_with}
use Rattle.std.proofs.lemmas.Slice.Eq.{starts_is}
use Rattle.std.proofs.lemmas.Bool.Decides.{Decides-eqb}
use Rattle.std.proofs.Math.Seq.{drop-length}
use Rattle.std.proofs.lemmas.List.{append-nil}
use Rattle.trace_follow.specs.declared.opened.Opened.{Opened}
use Rattle.trace_check.specs.Lines.{is_pool_size, spaced, opening_line, last_line, AreU64, IsOpened}
use Rattle.trace_check.specs.Reading.{◌>>=◌, numbers_at, opening_from, opening_at, last_at, skeleton_at}
use Rattle.trace_check.proofs.Numerals.{same_first, same_second}
use Rattle.trace_check.proofs.LineLaws.{Bound, bound, numbers_again, numbers_told, AreRead}

-- the numbers of opening data
abbrev told_numbers : Opened → List ℕ
told_numbers o = o.blocks ∷ o.block_len ∷ o.first_name ∷ []

opening_parts : (o : Opened) (rest : List ℕ) → opening_line o ++ rest ≡ codes "pool" ++ (spaced (told_numbers o) ++ 10 ∷ rest)
unfolding opening_line
opening_parts o rest = ap (λ (t : List ℕ). codes "pool" ++ t) (append_assoc (spaced (told_numbers o)) (10 ∷ []) rest)

read_opening : (o : Opened) (rest : List ℕ) → IsOpened o → opening_at (codes "pool" ++ (spaced (told_numbers o) ++ 10 ∷ rest)) ≡ Some (o, rest)
unfolding opening_at
read_opening o rest form =
    let here : Option Opened = Some o in
    ap (λ (r : Option (List ℕ × List ℕ)). r >>= (λ ns. (opening_from ns.0 >>= (λ p. Some (p, ns.1))))) (numbers_again 6 (told_numbers o) rest form.wide (omega arith))
    ∙ ap (λ (t : Bool). (if t then here else None) >>= (λ p. Some (p, rest))) form.size

pub opening_again : (o : Opened) (rest : List ℕ) → IsOpened o → opening_at (opening_line o ++ rest) ≡ Some (o, rest)
opening_again o rest form = ap (λ (t : List ℕ). opening_at t) (opening_parts o rest) ∙ read_opening o rest form

-- what numbers opening data were read from
record FromNumbers (numbers : List ℕ) (o : Opened) : Type 0 where
  is : numbers ≡ told_numbers o
  size : is_pool_size o.blocks o.block_len ≡ true

from_told : (numbers : List ℕ) (o : Opened) → opening_from numbers ≡ Some o → FromNumbers numbers o
from_told (blocks ∷ block_len ∷ first ∷ []) o is =
    let p : Opened = record { blocks = blocks; block_len = block_len; first_name = first } in
    elim (is_pool_size blocks block_len) as (λ (t : Bool). is_pool_size blocks block_len ≡ t → (if t then Some p else None) ≡ Some o → FromNumbers (blocks ∷ block_len ∷ first ∷ []) o) [
      | true ↦ λ pool read.
          let same : p ≡ o = cc in
          subst (λ (q : Opened). FromNumbers (blocks ∷ block_len ∷ first ∷ []) q) same (record { is = refl; size = pool })
      | false ↦ λ none read. cc
    ] refl is
from_told numbers o is = cc

-- what opening data were read
pub record IsOpeningLine (bs : List ℕ) (o : Opened) (rest : List ℕ) : Type 0 where
  pub is : bs ≡ opening_line o ++ rest
  pub form : IsOpened o

pub opening_told : (bs : List ℕ) (o : Opened) (rest : List ℕ) → opening_at bs ≡ Some (o, rest) → IsOpeningLine bs o rest
unfolding opening_at
opening_told bs o rest is =
    let after : Option (Opened × List ℕ) = (numbers_at 6 (drop 4 bs) >>= (λ ns. (opening_from ns.0 >>= (λ p. Some (p, ns.1))))) in
    elim (starts_with nat_eq bs (codes "pool")) as (λ (t : Bool). starts_with nat_eq bs (codes "pool") ≡ t → (if t then after else None) ≡ Some (o, rest) → IsOpeningLine bs o rest) [
      | true ↦ λ starts read.
          let n : Bound (numbers_at 6 (drop 4 bs)) (λ ns. (opening_from ns.0 >>= (λ p. Some (p, ns.1)))) (o, rest) = bound (numbers_at 6 (drop 4 bs)) (λ ns. (opening_from ns.0 >>= (λ p. Some (p, ns.1)))) (o, rest) read in
          let f : Bound (opening_from n.value.0) (λ p. Some (p, n.value.1)) (o, rest) = bound (opening_from n.value.0) (λ p. Some (p, n.value.1)) (o, rest) n.then_is in
          let same : f.value ≡ o = same_first (f.value, n.value.1) (o, rest) f.then_is in
          let end : n.value.1 ≡ rest = same_second (f.value, n.value.1) (o, rest) f.then_is in
          let numbers : AreRead (drop 4 bs) n.value.0 n.value.1 = numbers_told 6 (drop 4 bs) n.value.0 n.value.1 n.is in
          let from : FromNumbers n.value.0 o = from_told n.value.0 o (f.is ∙ ap (λ (p : Opened). Some p) same) in
          let front : bs ≡ codes "pool" ++ drop 4 bs = (starts_is Decides-eqb bs (codes "pool") true (sym starts)).0 refl in
          record {
            is = front ∙ ap (λ (t : List ℕ). codes "pool" ++ t) (numbers.is ∙ ap (λ (t : List ℕ). spaced n.value.0 ++ 10 ∷ t) end ∙ ap (λ (t : List ℕ). spaced t ++ 10 ∷ rest) from.is) ∙ sym (opening_parts o rest);
            form = record { size = from.size; wide = subst (λ (t : List ℕ). AreU64 t) from.is numbers.wide };
          }
      | false ↦ λ other read. cc
    ] refl is

pub last_again : (whole : Bool) → last_at (last_line whole) ≡ Some whole
last_again true = refl
last_again false = refl

-- four bytes that begin so are these
four : (bs text : List ℕ) → length bs ≡ 4 → bs ≡ text ++ drop 4 bs → bs ≡ text
four bs text len front =
    let none : drop 4 bs ≡ [] = ap (λ (n : ℕ). drop n bs) (sym len) ∙ drop-length bs in
    front ∙ ap (λ (t : List ℕ). text ++ t) none ∙ append-nil text

pub last_told : (bs : List ℕ) (whole : Bool) → last_at bs ≡ Some whole → bs ≡ last_line whole
last_told bs whole is =
    let end : Bool = starts_with nat_eq bs (codes "end\n") in
    let cut : Bool = starts_with nat_eq bs (codes "cut\n") in
    elim (length bs == 4) as (λ (t : Bool). (length bs == 4) ≡ t → (if t then (if end then Some true else (if cut then Some false else None)) else None) ≡ Some whole → bs ≡ last_line whole) [
      | true ↦ λ len read.
          let four_long : length bs ≡ 4 = eqb-true (length bs) 4 len in
          elim end as (λ (t : Bool). end ≡ t → (if t then Some true else (if cut then Some false else None)) ≡ Some whole → bs ≡ last_line whole) [
            | true ↦ λ starts more.
                let w : true ≡ whole = cc in
                four bs (codes "end\n") four_long ((starts_is Decides-eqb bs (codes "end\n") true (sym starts)).0 refl) ∙ ap last_line w
            | false ↦ λ other more. elim cut as (λ (t : Bool). cut ≡ t → (if t then Some false else None) ≡ Some whole → bs ≡ last_line whole) [
              | true ↦ λ starts most.
                  let w : false ≡ whole = cc in
                  four bs (codes "cut\n") four_long ((starts_is Decides-eqb bs (codes "cut\n") true (sym starts)).0 refl) ∙ ap last_line w
              | false ↦ λ none most. cc
            ] refl more
          ] refl read
      | false ↦ λ short read. cc
    ] refl is

-- the last line is no entry's
pub no_entry_last : (whole : Bool) → skeleton_at (last_line whole) ≡ None
unfolding skeleton_at
no_entry_last true = refl
no_entry_last false = refl
