-- Each name is read as it is written, and nothing else is.
use Rattle.std.proofs.Common.{◌≡◌, ℕ, List, [], ◌∷◌, ◌++◌, length, drop, find, Some, true, false, cond, nat_eq, refl, ap, sym, ◌∙◌}
use Rattle.std.specs.List.{starts_with}
use Rattle.std.proofs.lemmas.Slice.Eq.{starts_is}
use Rattle.std.proofs.lemmas.Bool.Decides.{Decides-eqb}
use Rattle.trace_check.specs.declared.name.Name.{Name}
use Rattle.trace_check.specs.declared.name.Name.TheVariants as name
use Rattle.trace_check.specs.Names.{spelled, names}
use Rattle.trace_check.specs.Lines.{spaced}
use Rattle.trace_check.specs.Reading.{is_named, ends_word, name_at}
use Rattle.trace_check.proofs.Numerals.{both}

-- a name behind which a space stands
name_and_space : (n : Name) (rest : List ℕ) → name_at (spelled n ++ 32 ∷ rest) ≡ Some n
unfolding name_at
name_and_space name.Ask rest = refl
name_and_space name.AddTracker rest = refl
name_and_space name.CloseTracker rest = refl
name_and_space name.Increase rest = refl
name_and_space name.IncreaseToFit rest = refl
name_and_space name.Decrease rest = refl
name_and_space name.MoveReservation rest = refl
name_and_space name.Create rest = refl
name_and_space name.PinHere rest = refl
name_and_space name.PinLoad rest = refl
name_and_space name.ReadOk rest = refl
name_and_space name.ReadFailed rest = refl
name_and_space name.ReadStale rest = refl
name_and_space name.PinAgain rest = refl
name_and_space name.UnpinOnce rest = refl
name_and_space name.Unpin rest = refl
name_and_space name.UnpinRefused rest = refl
name_and_space name.Extract rest = refl
name_and_space name.Destroy rest = refl
name_and_space name.Alloc rest = refl
name_and_space name.Free rest = refl
name_and_space name.MoveBuffer rest = refl
name_and_space name.StartWrite rest = refl
name_and_space name.WriteOk rest = refl
name_and_space name.WriteFailed rest = refl
name_and_space name.Evict rest = refl
name_and_space name.RefusedPin rest = refl
name_and_space name.RefusedPinAgain rest = refl
name_and_space name.RefusedCreate rest = refl
name_and_space name.RefusedAlloc rest = refl
name_and_space name.RefusedGiveBack rest = refl
name_and_space name.RefusedMoveReservation rest = refl
name_and_space name.RefusedMoveBuffer rest = refl

-- a name behind which a newline stands
name_and_newline : (n : Name) (rest : List ℕ) → name_at (spelled n ++ 10 ∷ rest) ≡ Some n
unfolding name_at
name_and_newline name.Ask rest = refl
name_and_newline name.AddTracker rest = refl
name_and_newline name.CloseTracker rest = refl
name_and_newline name.Increase rest = refl
name_and_newline name.IncreaseToFit rest = refl
name_and_newline name.Decrease rest = refl
name_and_newline name.MoveReservation rest = refl
name_and_newline name.Create rest = refl
name_and_newline name.PinHere rest = refl
name_and_newline name.PinLoad rest = refl
name_and_newline name.ReadOk rest = refl
name_and_newline name.ReadFailed rest = refl
name_and_newline name.ReadStale rest = refl
name_and_newline name.PinAgain rest = refl
name_and_newline name.UnpinOnce rest = refl
name_and_newline name.Unpin rest = refl
name_and_newline name.UnpinRefused rest = refl
name_and_newline name.Extract rest = refl
name_and_newline name.Destroy rest = refl
name_and_newline name.Alloc rest = refl
name_and_newline name.Free rest = refl
name_and_newline name.MoveBuffer rest = refl
name_and_newline name.StartWrite rest = refl
name_and_newline name.WriteOk rest = refl
name_and_newline name.WriteFailed rest = refl
name_and_newline name.Evict rest = refl
name_and_newline name.RefusedPin rest = refl
name_and_newline name.RefusedPinAgain rest = refl
name_and_newline name.RefusedCreate rest = refl
name_and_newline name.RefusedAlloc rest = refl
name_and_newline name.RefusedGiveBack rest = refl
name_and_newline name.RefusedMoveReservation rest = refl
name_and_newline name.RefusedMoveBuffer rest = refl

pub name_again : (n : Name) (numbers rest : List ℕ) → name_at (spelled n ++ (spaced numbers ++ 10 ∷ rest)) ≡ Some n
name_again n [] rest = name_and_newline n rest
name_again n (m ∷ ms) rest = name_and_space n _

found : (bs : List ℕ) (ns : List Name) (n : Name) → find (is_named bs) ns ≡ Some n → is_named bs n ≡ true
found bs [] n is = cc
found bs (m ∷ ms) n is = elim (is_named bs m) as (λ t. is_named bs m ≡ t → cond t (Some m) (find (is_named bs) ms) ≡ Some n → is_named bs n ≡ true) [
  | true ↦ λ here same. let which : m ≡ n = cc in ap (λ (k : Name). is_named bs k) (sym which) ∙ here
  | false ↦ λ other more. found bs ms n more
] refl is

pub name_told : (bs : List ℕ) (n : Name) → name_at bs ≡ Some n → bs ≡ spelled n ++ drop (length (spelled n)) bs
unfolding name_at
name_told bs n is =
    let named : is_named bs n ≡ true = found bs names n is in
    let starts : starts_with nat_eq bs (spelled n) ≡ true = (both (starts_with nat_eq bs (spelled n)) (ends_word (drop (length (spelled n)) bs)) named).0 in
    (starts_is Decides-eqb bs (spelled n) true (sym starts)).0 refl
