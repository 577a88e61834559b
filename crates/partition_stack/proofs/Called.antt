-- What a call of one partition left of all.
use Rattle.std.proofs.Common.{◌≡◌, ◌∙◌, ℕ, Bool, true, false, List, set, Some, None, Result, Ok, Err, IfOk, OnErr, if◌then◌else◌, refl, ap, sym}
use Rattle.std.specs.List.{slice_get}
use Rattle.std.proofs.lemmas.Option.{same_Some}
use Rattle.reservation_tree.specs.declared.errors.PoolErr.{PoolErr}
use Rattle.store_api.specs.Holdings.{Holdings}
use Rattle.store_api.specs.Signs.{Signs}
use Rattle.tuple_stream.specs.Streamed.{Streamed}
use Rattle.tuple_stream.specs.Steps.{Reads, Scene, scene}
use Rattle.tuple_stream.specs.Spending.{Spends}
use Rattle.tuple_stream.specs.Families.{AreShaped, changed, family}
use Rattle.tuple_stream.specs.FamilyCalls.{ReadsIn}
use Rattle.tuple_stream.proofs.FamilyWords.{reads_in, spends_in}
use Rattle.tuple_stream.proofs.OnePlace.{set_there}
use Rattle.partition_stack.specs.Stack.{Stack}
use Rattle.partition_stack.specs.Changes.{ChangesAt, SpendsAt}
use Rattle.partition_stack.proofs.ListPlaces.{set_same}

pub changes_at : (at : ℕ) (p : Stack) (now : Streamed) → ChangesAt at p (record p { streams = set p.streams at now })
changes_at at p now = record { blocks = refl; levels = refl; others = λ i apart. set_there p.streams at i now apart }

-- the blocks of its pages stay
pub sized_spent : (t : ℕ) (r : Result Bool PoolErr) (out : List ℕ) (a b : Scene) → IfOk r (λ found. Spends t (if found then Some out else None) a b) → OnErr r (Reads t a b) → b.stream.page_blocks ≡ a.stream.page_blocks
sized_spent t (Ok true) out a b spends reads = spends.step.sized
sized_spent t (Ok false) out a b spends reads = ap (λ (x : Scene). x.stream.page_blocks) spends.1
sized_spent t (Err e) out a b spends reads = reads.step.sized

module _ (t at : ℕ) (streams : List Streamed) (h : Holdings) (signs : Signs) (a : Streamed) (b : Scene) (shaped : AreShaped t (family streams h signs)) (there : slice_get streams at ≡ Some a) where
  same_all : b ≡ scene a h signs → changed at b (family streams h signs) ≡ family streams h signs
  same_all is =
      ap (λ (x : Scene). changed at x (family streams h signs)) is
      ∙ ap (λ (ss : List Streamed). family ss h signs) (set_same streams at a there)

  pub spends_at : (found : Bool) (out : List ℕ) → Spends t (if found then Some out else None) (scene a h signs) b → SpendsAt t at (if found then Some out else None) (family streams h signs) (changed at b (family streams h signs))
  spends_at true out spends = spends_in t at (family streams h signs) a b shaped there out spends
  spends_at false out spends = (λ s here. ap (λ (r : Streamed). r.count) (same_Some s a (sym here ∙ there)) ∙ spends.0, same_all spends.1)

  pub read_again : (r : Result Bool PoolErr) → OnErr r (Reads t (scene a h signs) b) → OnErr r (b.stream ≡ record a { pinned = b.stream.pinned }) → OnErr r (ReadsIn t (family streams h signs) (changed at b (family streams h signs)))
  read_again (Ok x) reads same = tt
  read_again (Err e) reads same = reads_in t at (family streams h signs) a b shaped there reads same
