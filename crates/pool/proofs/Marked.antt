-- A session comes by no item but one that says so.
use Rattle.std.proofs.Common.{ℕ, List, [], ◌∷◌, ◌++◌, map}
use Rattle.std.specs.List.{AllByRecursion}
use Rattle.pool_model.specs.declared.event.Event.{Event}
use Rattle.store_api.specs.Entries.{by}
use Rattle.session_calls.specs.declared.count.Count.{Count}
use Rattle.session_calls.specs.Moving.{NoneOpens}
use Rattle.pool.specs.declared.item.Item.{Item}
use Rattle.pool.specs.declared.item.Item.TheVariants.{Made, Went}
use Rattle.pool.specs.Standing.{IsMarked}
use Rattle.pool.proofs.Since.{worked}

pub marked_more : (xs ys : List Item) → AllByRecursion IsMarked xs → AllByRecursion IsMarked ys → AllByRecursion IsMarked (xs ++ ys)
marked_more [] ys first rest = rest
marked_more (x ∷ xs) ys first rest = (first.0, marked_more xs ys first.1 rest)

marked_went : (m : ℕ) (cs : List Count) → AllByRecursion IsMarked (map (Went m) cs)
marked_went m [] = tt
marked_went m (c ∷ cs) = (tt, marked_went m cs)

marked_made : (m : ℕ) (events : List Event) → NoneOpens events → AllByRecursion IsMarked (map Made (by m events))
marked_made m [] none = tt
marked_made m (e ∷ events) none = (none.0, marked_made m events none.1)

-- what a session enters while it has the value in hand says so of none
pub marked_worked : (m : ℕ) (events : List Event) (cs : List Count) → NoneOpens events → AllByRecursion IsMarked (worked m (by m events) cs)
marked_worked m events cs none = marked_more (map Made (by m events)) (map (Went m) cs) (marked_made m events none) (marked_went m cs)
