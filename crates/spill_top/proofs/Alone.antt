-- In a pool with one session, that session made all pages.
use Rattle.std.proofs.Common.{◌≡◌, ◌∙◌, ◌≤◌, ◌++◌, ℕ, Bool, List, [], ◌∷◌, filter, length, sym, ap, subst, arith, append_assoc}
use Rattle.std.specs.List.{AllByRecursion}
use Rattle.std.proofs.lemmas.List.Sums.{sum_by-cons}
use Rattle.outside.specs.declared.slot.Slot.{Ghosts}
use Rattle.turn_table.specs.Face.{Spot}
use Rattle.pool_model.specs.Legal.{IsLegal}
use Rattle.pool_model.specs.LookingBack.{is_by, made_by, names_in}
use Rattle.pool_model.specs.State.{Opening}
use Rattle.pool_model.specs.declared.entry.Entry.{Entry}
use Rattle.pool_model.proofs.Fronts.{legal_fronts}
use Rattle.pin_core.specs.declared.tally.Tally.{Tally}
use Rattle.pool.specs.declared.item.Item.{Item}
use Rattle.pool.specs.Items.{history}
use Rattle.pool.specs.Opening.{ClosesWith}
use Rattle.pool.specs.Standing.{IsMarked}
use Rattle.pool.proofs.Listed.{history_more}
use Rattle.session_shares.specs.Shares.{NamesFit}
use Rattle.spill_top.specs.Seated.{SatAlone}

-- what holds of all holds of a front
pub front_all : {X : Type 0} (P : X → Type 0) (xs ys : List X) → AllByRecursion P (xs ++ ys) → AllByRecursion P xs
front_all P [] ys all = tt
front_all P (x ∷ xs) ys all = (all.0, front_all P xs ys all.1)

module _ {D : Type 0} (slot : Ghosts D) (o : Opening) (told : Bool) (first : Tally) (pass : Spot Item) (slots : List D) (closed : ClosesWith slot o told first pass slots) (limit quota least : ℕ) (sat : SatAlone o told limit quota least pass) where
  abbrev pub behind : List Item
  behind = sat.more ++ closed.grew.behind

  -- the pool's history goes on behind what the session saw
  items_on : closed.items ≡ sat.last.spot.knows.seen ++ behind
  items_on =
      closed.grew.grew ∙ ap (λ (items : List Item). items ++ closed.grew.behind) sat.seen ∙ append_assoc sat.last.spot.knows.seen sat.more closed.grew.behind

  pub whole_on : history closed.items ≡ history sat.last.spot.knows.seen ++ history behind
  whole_on = ap history items_on ∙ history_more sat.last.spot.knows.seen behind

  pub made_alone : NamesFit → length (names_in (history sat.last.spot.knows.seen)) ≤ length (names_in (made_by (history sat.last.spot.knows.seen) sat.last.number))
  made_alone law =
      let seen : List Item = sat.last.spot.knows.seen in
      let legal : IsLegal o (history seen) = legal_fronts o (history seen) (history behind) (subst (IsLegal o) whole_on closed.legal) in
      let marked : AllByRecursion IsMarked pass.knows.seen = front_all IsMarked pass.knows.seen closed.grew.behind (subst (AllByRecursion IsMarked) closed.grew.grew closed.marked) in
      let fits = law o (history seen) (sat.first.number ∷ []) legal sat.among in
      let one = sum_by-cons (λ (m : ℕ). length (names_in (filter (is_by m) (history seen)))) sat.first.number [] in
      let own : length (names_in (filter (is_by sat.first.number) (history seen))) ≡ length (names_in (made_by (history seen) sat.last.number)) =
      ap (λ (h : List Entry). length (names_in h)) (sat.once marked ∙ ap (made_by (history seen)) (sym sat.number)) in
      omega (arith, fits, one, own)
