-- What a client holds is what its tracker is charged, and the sums on its dirty and flying lists.
use Rattle.std.proofs.Common.{◌≡◌, ℕ, ◌+◌, ◌*◌, ◌==◌, Bool, true, false, List, [], ◌∷◌, Option, Some, unwrap_or, option_map, get_or, refl, ap, sym, ◌∙◌, subst, inl, inr, arith, eqb-true, add-mul, zero-mul}
use Rattle.std.specs.FinMap.{get}
use Rattle.std.specs.List.{sum_by}
use Rattle.std.proofs.lemmas.Bool.{false≢true, cases_Bool, eq-eqb}
use Rattle.std.proofs.lemmas.List.Sums.{sum_by-cons}
use Rattle.index_list.specs.Listing.{list_with, stands_in}
use Rattle.index_list.proofs.Places.{list-from_stands, stands-from_list}
use Rattle.page_table.specs.declared.entry.Entry.{Entry}
use Rattle.page_table.specs.declared.entry.Place.{Place as Spot}
use Rattle.page_table.specs.declared.entry.Place.TheVariants as spot
use Rattle.clean_evict.specs.Eviction.{name_at}
use Rattle.client_lists.specs.declared.which.Which.{Which}
use Rattle.client_lists.specs.declared.which.Which.TheVariants as which
use Rattle.client_lists.specs.Clients.{place, nodes_of, len_of, sum}
use Rattle.client_lists.specs.Clients.{total as along}
use Rattle.reservation_tree.specs.Tree.{charge_of as charge_in}
use Rattle.reservation_tree.proofs.Maps.{found, is_there}
use Rattle.reservation_tree.proofs.Sums.{total-same, total-plus}
use Rattle.pool_model.specs.Bytes.{bytes_of, only_if}
use Rattle.pool_model.specs.State.{Place, Page, Pages, Pinned, Dirty, Flying, Loading, Clean, Evicted}
use Rattle.pool_model.specs.Sums.{times_charged, times_held, once, page_bytes, pages_for, held_by}
use Rattle.pool_model.specs.Orders.{is_dirty}
use Rattle.pool_model.proofs.Weights.{only_none, only_when, only_not, one_time}
use Rattle.pin_core.specs.declared.kept.Kept.{Kept}
use Rattle.pin_core.specs.calls.Ending.{is_flying}
use Rattle.pin_core.specs.declared.parts.Parts.{Parts}
use Rattle.pin_core.specs.StateOf.{page_of, pages_in, place_in, state_of}
use Rattle.pin_core.specs.Invariant.{list_at, IsPlaced, IsKept}
use Rattle.pin_core.specs.Lawful.{Lawful}
use Rattle.pin_core.proofs.Mapped.{get_mapped}
use Rattle.pin_core.proofs.Queued.{name_is}
use Rattle.pin_core.proofs.OnLists.{on_list_live}
use Rattle.pin_core.proofs.Listed.{listed_total}
use Rattle.pin_core.proofs.Known.{HasEntry, has_entry}

along_sum : (lens nodes : List ℕ) → along lens nodes ≡ sum_by (λ k. get_or lens k 0) nodes
along_sum lens [] = refl
along_sum lens (k ∷ ks) =
    let rest = along_sum lens ks in
    let both = sum_by-cons (λ q. get_or lens q 0) k ks in
    omega (arith, rest, both)

-- a list and the places of the pages on it
pub record Fit (kind : Which) (counts : Place → Bool) : Type 0 where
  pub on : (d c : ℕ) (at : Spot) → list_at d at ≡ Some (place c kind) → (d ≡ c) × (counts (place_in at) ≡ true)
  pub back : (c : ℕ) (at : Spot) → counts (place_in at) ≡ true → list_at c at ≡ Some (place c kind)

pub number_is : (a b : ℕ) → Some a ≡ Some b → a ≡ b
number_is a b is = ap (λ (o : Option ℕ). unwrap_or o a) is

pub dirty_fit : Fit which.Dirty is_dirty
dirty_fit = record {
  on = λ d c at is. dirty_on d c at is;
  back = λ c at is. dirty_back c at is;
} where
  dirty_on : (d c : ℕ) (at : Spot) → list_at d at ≡ Some (place c which.Dirty) → (d ≡ c) × (is_dirty (place_in at) ≡ true)
  dirty_on d c spot.Dirty is = let e = number_is (3 * d + 1) (3 * c + 1) is in (omega (arith, e), refl)
  dirty_on d c (spot.Pinned count) is = let e = number_is (3 * d + 0) (3 * c + 1) is in absurd (omega (arith, e))
  dirty_on d c (spot.Flying writer) is = let e = number_is (3 * d + 2) (3 * c + 1) is in absurd (omega (arith, e))
  dirty_on d c spot.Loading is = let e = number_is (3 * d + 0) (3 * c + 1) is in absurd (omega (arith, e))
  dirty_on d c spot.Clean is = cc
  dirty_on d c spot.Evicted is = cc

  dirty_back : (c : ℕ) (at : Spot) → is_dirty (place_in at) ≡ true → list_at c at ≡ Some (place c which.Dirty)
  dirty_back c spot.Dirty is = refl
  dirty_back c (spot.Pinned count) is = absurd (false≢true is)
  dirty_back c (spot.Flying writer) is = absurd (false≢true is)
  dirty_back c spot.Loading is = absurd (false≢true is)
  dirty_back c spot.Clean is = absurd (false≢true is)
  dirty_back c spot.Evicted is = absurd (false≢true is)

pub flying_fit : Fit which.Flying is_flying
flying_fit = record {
  on = λ d c at is. flying_on d c at is;
  back = λ c at is. flying_back c at is;
} where
  flying_on : (d c : ℕ) (at : Spot) → list_at d at ≡ Some (place c which.Flying) → (d ≡ c) × (is_flying (place_in at) ≡ true)
  flying_on d c (spot.Flying writer) is = let e = number_is (3 * d + 2) (3 * c + 2) is in (omega (arith, e), refl)
  flying_on d c (spot.Pinned count) is = let e = number_is (3 * d + 0) (3 * c + 2) is in absurd (omega (arith, e))
  flying_on d c spot.Dirty is = let e = number_is (3 * d + 1) (3 * c + 2) is in absurd (omega (arith, e))
  flying_on d c spot.Loading is = let e = number_is (3 * d + 0) (3 * c + 2) is in absurd (omega (arith, e))
  flying_on d c spot.Clean is = cc
  flying_on d c spot.Evicted is = cc

  flying_back : (c : ℕ) (at : Spot) → is_flying (place_in at) ≡ true → list_at c at ≡ Some (place c which.Flying)
  flying_back c (spot.Flying writer) is = refl
  flying_back c spot.Dirty is = absurd (false≢true is)
  flying_back c (spot.Pinned count) is = absurd (false≢true is)
  flying_back c spot.Loading is = absurd (false≢true is)
  flying_back c spot.Clean is = absurd (false≢true is)
  flying_back c spot.Evicted is = absurd (false≢true is)

-- what is held is charged, dirty or flying
three_places : (at : Place) → times_charged at + (once is_dirty at + once is_flying at) ≡ times_held at
three_places (Pinned count) = omega arith
three_places Dirty = refl
three_places (Flying writer) = refl
three_places Loading = refl
three_places Clean = refl
three_places Evicted = refl

three_of : (b : Bool) (at : Place) (n : ℕ) → only_if b (times_charged at * n) + (only_if b (once is_dirty at * n) + only_if b (once is_flying at * n)) ≡ only_if b (times_held at * n)
three_of true at n =
    let all = ap (λ (k : ℕ). k * n) (three_places at) in
    let two = add-mul (times_charged at) (once is_dirty at + once is_flying at) n in
    let one = add-mul (once is_dirty at) (once is_flying at) n in
    omega (arith, all, two, one)
three_of false at n = omega arith

pub held_parts : (len : ℕ) (pages : Pages) (c : ℕ) → pages_for times_held len pages c ≡ pages_for times_charged len pages c + (pages_for (once is_dirty) len pages c + pages_for (once is_flying) len pages c)
unfolding pages_for
held_parts len pages c =
    let w : (Place → ℕ) → ℕ → Page → ℕ = λ times _ x. only_if (x.client == c) (page_bytes times len x) in
    let two = total-plus (w (once is_dirty)) (w (once is_flying)) pages in
    let three = total-plus (w times_charged) (λ k x. w (once is_dirty) k x + w (once is_flying) k x) pages in
    let same = total-same (λ k x. w times_charged k x + (w (once is_dirty) k x + w (once is_flying) k x)) (w times_held) pages (λ k x is. three_of (x.client == c) x.place (bytes_of len x.blocks)) in
    omega (arith, two, three, same)

nothing : (a b : Bool) (n : ℕ) → (a ≡ true → b ≡ true → ⊥) → only_if a (only_if b 1 * n) ≡ 0
nothing a b n never = elim (cases_Bool a) [
  | inl is ↦ elim (cases_Bool b) [
    | inl so ↦ absurd (never is so)
    | inr so ↦ ap (λ (t : Bool). only_if a (only_if t 1 * n)) so ∙ ap (only_if a) (zero-mul n) ∙ only_none a
  ]
  | inr is ↦ only_not a (only_if b 1 * n) is
]

module _ {D : Type 0} (v : Parts D) (is_kept : IsKept v) (laws : Lawful v) (kind : Which) (counts : Place → Bool) (fit : Fit kind counts) (c : ℕ) where
  -- the page with a key on the list
  pub record IsOnIt (k : ℕ) : Type 0 where
    pub name : ℕ
    pub live : get v.pages.names k ≡ Some name
    pub named : name_at v.pages k ≡ name
    pub page : Entry (Kept D)
    pub there : get v.pages.entries name ≡ Some page
    pub at : IsPlaced v k page
    pub client : page.client ≡ c
    pub counted : counts (place_in page.place) ≡ true

  pub on_it : (k : ℕ) → stands_in k (nodes_of c kind v.lists) ≡ true → IsOnIt k
  on_it k s =
      let on : list_with k v.lists.pages.lists ≡ Some (place c kind) = list-from_stands v.lists.pages.lists laws.whole.measured.proper k (place c kind) s in
      let live = on_list_live v is_kept laws.whole (place c kind) k s in
      let there = found (get v.pages.entries live.0) (laws.proper.named k live.0 live.1) in
      let at : IsPlaced v k there.0 = is_kept.placed k live.0 there.0 live.1 there.1 in
      let both = fit.on there.0.client c there.0.place (sym at.on ∙ on) in
      record { name = live.0; live = live.1; named = name_is v.pages k live.0 live.1; page = there.0; there = there.1; at = at; client = both.0; counted = both.1 }

  pub along_list : pages_for (once counts) v.arena.block_len (pages_in v.pages) c ≡ sum c kind v.lists
  unfolding pages_for
  along_list =
      let len = v.arena.block_len in
      listed_total (λ _ x. only_if (x.client == c) (page_bytes (once counts) len x)) (λ k. len_of k v.lists.pages) (name_at v.pages) (nodes_of c kind v.lists) (pages_in v.pages)
      (laws.whole.measured.proper.once (place c kind))
      (λ k s. let i : IsOnIt k = on_it k s in record {
        value = page_of v.pages i.name i.page;
        there = ap (get (pages_in v.pages)) i.named ∙ get_mapped (page_of v.pages) v.pages.entries i.name ∙ ap (λ (o : Option (Entry (Kept D))). option_map (page_of v.pages i.name) o) i.there;
        weight = only_when (i.page.client == c) _ (eq-eqb i.page.client c i.client)
            ∙ ap (λ (b : Bool). only_if b 1 * bytes_of len i.page.blocks) i.counted ∙ one_time (bytes_of len i.page.blocks) ∙ sym i.at.size;
      })
      (λ k j s t same.
      let a : IsOnIt k = on_it k s in
      let b : IsOnIt j = on_it j t in
      laws.proper.apart k j a.name a.live (b.live ∙ ap Some (sym b.named ∙ sym same ∙ a.named)))
      (λ p y is none.
      let e : HasEntry v p y = has_entry v p y is in
      let key = laws.proper.keyed p (is_there (get v.pages.entries p) e.entry e.there) in
      let at : IsPlaced v key.0 e.entry = is_kept.placed key.0 p e.entry key.1 e.there in
      subst (λ (z : Page). only_if (z.client == c) (page_bytes (once counts) len z) ≡ 0) e.is
      (nothing (e.entry.client == c) (counts (place_in e.entry.place)) (bytes_of len e.entry.blocks) (λ mine counted.
      let client : e.entry.client ≡ c = eqb-true e.entry.client c mine in
      let on : list_with key.0 v.lists.pages.lists ≡ Some (place c kind) = at.on ∙ fit.back e.entry.client e.entry.place counted ∙ ap (λ (d : ℕ). Some (place d kind)) client in
      none key.0 (stands-from_list v.lists.pages.lists key.0 (place c kind) on).1 (name_is v.pages key.0 p key.1))))
      ∙ sym (along_sum v.lists.pages.lens (nodes_of c kind v.lists))

module _ {D : Type 0} (v : Parts D) (is_kept : IsKept v) (laws : Lawful v) (c : ℕ) where
  pub held_is : held_by (state_of v) c ≡ charge_in v.tree c + (sum c which.Dirty v.lists + sum c which.Flying v.lists)
  held_is =
      let parts = held_parts v.arena.block_len (pages_in v.pages) c in
      let dirty = along_list v is_kept laws which.Dirty is_dirty dirty_fit c in
      let flying = along_list v is_kept laws which.Flying is_flying flying_fit c in
      let charge = is_kept.counted.charges c in
      omega (arith, parts, dirty, flying, charge)
