-- What a call that feeds a row to a join leaves. The store comes as the ghost members of its trait, as one value.
use Rattle.std.specs.Prelude.{◌≡◌, ℕ, ◌∷◌, [], ◌++◌, List, Option, Result, OnOk, IfErr}
use Rattle.pool_model.specs.declared.entry.Entry.{Entry}
use Rattle.row_codec.specs.declared.values.Value.{Value}
use Rattle.store_api.specs.declared.op_err.OpErr.{OpErr}
use Rattle.store_api.specs.declared.store.Store.{Ghosts as StoreGhosts}
use Rattle.tuple_stream.specs.Families.{slots_in}
use Rattle.partition_stack.specs.Leaving.{CameOfStore, LeavesOthers}
use Rattle.partition_stack.specs.Making.{MakesFew}
use Rattle.partition_stack.specs.Slots.{IsWantBelowOf, IsWantOf}
use Rattle.join_op.specs.Operator.{IsFeeding, IsOperator, IsSame, Keeps, Operator, over_both, slots_for}

module _ {St : Type 0} (store : StoreGhosts St) where
  -- the slots that are free, and those of the pages of both sides
  abbrev pub slots_at : Operator → St → Option ℕ
  slots_at join s = slots_in (over_both join.left join.right (store.holds s) (store.signs s))

  -- a row came to those that were fed: what each side's rows are with it is said by the first two
  pub record TakesRow (lefts_with rights_with : List (List Value) → List (List Value)) (join now : Operator) (s s_new : St)
      (result : Result (Unit {0}) OpErr) : Type 0 where
    -- the join keeps what it kept, and the row
    pub keeps : OnOk result ((start : Option (List Entry)) → (lefts rights : List (List Value))
        → Keeps start lefts rights join (store.holds s) (store.signs s)
        → Keeps start (lefts_with lefts) (rights_with rights) now (store.holds s_new) (store.signs s_new))
    pub op : IsOperator now (store.holds s_new) (store.signs s_new)
    pub feeding : IsFeeding now
    pub same : IsSame join now
    pub leaves : LeavesOthers join.client.tracker (store.holds s) (store.holds s_new) (store.signs s) (store.signs s_new)
    pub slots : slots_at now s_new ≡ slots_at join s
    pub cause : IfErr result (CameOfStore join.left.page_blocks (store.holds s_new) (store.signs s) (store.signs s_new))
    -- at most one page was made
    pub few : MakesFew 1 (store.signs s) (store.signs s_new)
    -- a want of slots names the blocks of a page, and what pages leave over of all slots
    pub want : IfErr result (IsWantOf join.left.page_blocks (slots_at join s))
    -- it comes only where these are fewer than the pages of the rows and of this one have
    pub enough : IfErr result (λ e. (start : Option (List Entry)) → (lefts rights : List (List Value))
        → Keeps start lefts rights join (store.holds s) (store.signs s)
        → IsWantBelowOf (slots_for join (store.holds s) (lefts_with lefts) (rights_with rights)) (slots_at join s) e)

  -- so it is of a left row, and of a right one
  abbrev pub TakesLeft : List Value → Operator → Operator → St → St → Result (Unit {0}) OpErr → Type 0
  TakesLeft row join now s s_new result = TakesRow (λ lefts. lefts ++ row ∷ []) (λ rights. rights) join now s s_new result

  abbrev pub TakesRight : List Value → Operator → Operator → St → St → Result (Unit {0}) OpErr → Type 0
  TakesRight row join now s s_new result = TakesRow (λ lefts. lefts) (λ rights. rights ++ row ∷ []) join now s s_new result
