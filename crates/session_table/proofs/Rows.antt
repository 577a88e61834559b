-- What a row stands for, and what becomes of it where its members change.
use Rattle.std.proofs.Common.{◌≡◌, ℕ, ◌+◌, ◌<◌, ◌≤◌, Bool, true, false, if◌then◌else◌, List, ◌++◌, map, set, take, drop, length, get_or, find, eqb, Option, None, Some, IsSome, is_some, option_map, option_and_then, ap, sym, ◌∙◌, subst}
use Rattle.std.proofs.lemmas.Bool.{false≢true}
use Rattle.std.proofs.lemmas.List.{take_all, drop_all, append-nil, get_or_default}
use Rattle.std.proofs.lemmas.List.Edits.{map_over_more}
use Rattle.session_table.specs.declared.member.Member.{Member}
use Rattle.session_table.specs.Seats.{Seat, first_of, members_in}

-- a seat with other members
abbrev pub with_members : (List Member → List Member) → Seat → Seat
with_members f x = record x { members = f x.members }

module _ (query quota : ℕ) where
  -- the seat of a row
  abbrev pub row_seat : Bool → List Member → Option Seat
  row_seat is_seated members = if is_seated then Some (record { query = query; quota = quota; members = members }) else None

  pub row_changed : (is_seated : Bool) (old new : List Member) (now : Option Seat) (f : List Member → List Member) → row_seat is_seated old ≡ now → new ≡ f old → row_seat is_seated new ≡ option_map (with_members f) now
  row_changed true old new now f is changed = ap (row_seat true) changed ∙ ap (option_map (with_members f)) is
  row_changed false old new now f is changed = ap (option_map (with_members f)) is

  pub row_members : (is_seated : Bool) (members : List Member) (now : Option Seat) → row_seat is_seated members ≡ now → IsSome now → members_in now ≡ members
  row_members true members now is there = sym (ap members_in is)
  row_members false members now is there = absurd (false≢true (ap (λ (o : Option Seat). is_some o) is ∙ there))

-- what is noted of the first client with that tracker
pub first_told : (listed clients : List Member) (t : ℕ) (member : Option Member) → member ≡ find (λ m. eqb m.tracker t) listed → listed ≡ clients → option_and_then (λ (m : Member). m.failed) member ≡ first_of clients t
first_told listed clients t member found are = ap (option_and_then (λ (m : Member). m.failed)) found ∙ ap (λ (ms : List Member). first_of ms t) are

-- one member more is as f makes it
pub map_more : (f : Member → Member) (xs ys : List Member) (i : ℕ) (d new : Member) → i < length xs → length ys ≡ length xs → ys ≡ map f (take i xs) ++ drop i xs → new ≡ f (get_or ys i d) → set ys i new ≡ map f (take (i + 1) xs) ++ drop (i + 1) xs
map_more f xs ys i d new within size so_far is =
    let inside : i < length ys = subst (λ (n : ℕ). i < n) (sym size) within in
    let read : get_or ys i d ≡ get_or ys i (get_or ys i d) = get_or_default ys i d (get_or ys i d) inside in
    ap (set ys i) is ∙ map_over_more f xs ys i (get_or ys i d) within so_far read

-- each is
pub map_all : (f : Member → Member) (xs ys : List Member) (i : ℕ) → length xs ≤ i → ys ≡ map f (take i xs) ++ drop i xs → ys ≡ map f xs
map_all f xs ys i past so_far =
    so_far ∙ ap (λ (front : List Member). map f front ++ drop i xs) (take_all i xs past) ∙ ap (λ (rest : List Member). map f xs ++ rest) (drop_all i xs past) ∙ append-nil (map f xs)
