-- Sessions that have just come have neither client nor page nor loan.
use Rattle.std.proofs.Common.{◌≡◌, Bool, List, [], ◌∷◌, ◌++◌, map, Option, Some, Result, Ok, Err, ap, ◌∙◌, subst}
use Rattle.std.specs.Option.{option_to_list}
use Rattle.std.specs.List.{All}
use Rattle.std.proofs.lemmas.List.Elements.{All-weaker}
use Rattle.reservation_tree.specs.declared.errors.PoolErr.{PoolErr}
use Rattle.pool_model.specs.State.{Opening}
use Rattle.turn_table.specs.Face.{Spot}
use Rattle.pool.specs.declared.ask.Ask.{Ask}
use Rattle.pool.specs.declared.item.Item.{Item}
use Rattle.pool.specs.Sitting.{Sitting, held_by}
use Rattle.pool.specs.Asking.{Answers, AreNew, IsNew}
use Rattle.tests_sessions.specs.Owning.{IsBare}
use Rattle.tests_sessions.proofs.Came.{each_seen, last_of}

module _ (o : Opening) (told : Bool) where
  abbrev pub Bare : Sitting → Type 0
  Bare s = IsBare 0 (held_by o told s)

  new_bare : (pass : Spot Item) (ask : Ask) (s : Sitting) → IsNew o told pass ask s → Bare s
  new_bare pass ask s new = record { live_clients = new.held.live_clients; pages = new.held.pages; loans = new.held.loans }

  -- one ask has one answer
  rest_new : (pass : Spot Item) (ask : Ask) (a : Result (List Sitting) PoolErr) (rest : Answers) → AreNew o told pass (ask ∷ []) (a ∷ rest) → AreNew o told pass [] rest
  rest_new pass ask (Ok sessions) rest new = new.1
  rest_new pass ask (Err e) rest new = new

  none_asked : {X : Type 0} (pass : Spot Item) (see : X → Result (List Sitting) PoolErr) (ys : List X) (x : X) → AreNew o told pass [] (map see (ys ++ x ∷ [])) → ⊥
  none_asked pass see [] x new = new
  none_asked pass see (y ∷ ys) x new = new

  -- where one ask was answered, and all of its sessions came
  only_bare : {X : Type 0} (pass : Spot Item) (ask : Ask) (see : X → Result (List Sitting) PoolErr) (ys : List X) (x : X) (sessions : List Sitting) → see x ≡ Ok sessions → AreNew o told pass (ask ∷ []) (map see (ys ++ x ∷ [])) → All Bare sessions
  only_bare pass ask see [] x sessions came new =
      let all : AreNew o told pass (ask ∷ []) (Ok sessions ∷ []) = subst (λ a. AreNew o told pass (ask ∷ []) (a ∷ [])) came new in
      All-weaker (IsNew o told pass ask) Bare (new_bare pass ask) sessions all.0
  only_bare pass ask see (y ∷ ys) x sessions came new = absurd (none_asked pass see ys x (rest_new pass ask (see y) (map see (ys ++ x ∷ [])) new))

  -- the two last of the sessions that came with the only answer
  pub two_bare : {X S : Type 0} (pass : Spot Item) (ask : Ask) (see : X → Result (List Sitting) PoolErr) (seat : S → Sitting) (xs ys : List X) (r : Option X) (x : X) (sessions less least : List S) (p q : Option S) (one two : S)
      → xs ≡ ys ++ option_to_list r → r ≡ Some x → see x ≡ Ok (map seat sessions) → AreNew o told pass (ask ∷ []) (map see xs)
      → sessions ≡ less ++ option_to_list p → p ≡ Some two → less ≡ least ++ option_to_list q → q ≡ Some one
      → Bare (seat one) × Bare (seat two)
  two_bare pass ask see seat xs ys r x sessions less least p q one two is some came new before last_two left last_one =
      let only : xs ≡ ys ++ x ∷ [] = is ∙ ap (λ o. ys ++ option_to_list o) some in
      let all : All (λ s. Bare (seat s)) sessions = each_seen Bare seat sessions (only_bare pass ask see ys x (map seat sessions) came (subst (λ l. AreNew o told pass (ask ∷ []) (map see l)) only new)) in
      let second : All (λ s. Bare (seat s)) less × Bare (seat two) = last_of (λ s. Bare (seat s)) sessions less p two before last_two all in
      let first : All (λ s. Bare (seat s)) least × Bare (seat one) = last_of (λ s. Bare (seat s)) less least q one left last_one second.0 in
      (first.1, second.1)
