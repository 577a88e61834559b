-- Where no name is left of a pool that queries share, one of them has very many rows.
use Rattle.std.proofs.Common.{◌≡◌, ◌∙◌, ◌⊎◌, ◌+◌, ◌*◌, ◌^◌, ◌≤◌, ◌++◌, inl, inr, ℕ, suc, Bool, true, List, [], ◌∷◌, Option, Some, None, IfSome, filter, length, refl, sym, ap, arith}
use Rattle.std.specs.List.{AllByRecursion, slice_get, sum_by}
use Rattle.std.proofs.lemmas.Bool.{cases_lt, leb-true}
use Rattle.std.proofs.lemmas.List.Sums.{sum_by-cons}
use Rattle.std.proofs.lemmas.Option.{same_Some}
use Rattle.pool_model.specs.Legal.{IsLegal}
use Rattle.pool_model.specs.LookingBack.{is_by, names_in}
use Rattle.pool_model.specs.State.{Opening}
use Rattle.pool_model.specs.declared.entry.Entry.{Entry}
use Rattle.turn_table.specs.Face.{Spot}
use Rattle.pool.specs.declared.item.Item.{Item}
use Rattle.pool.specs.Items.{history, own_in}
use Rattle.pool.specs.Seating.{beginning_items}
use Rattle.pool.specs.Sitting.{signs_by}
use Rattle.pool.specs.Standing.{IsMarked}
use Rattle.pool.proofs.Listed.{history_more}
use Rattle.session_calls.specs.Told.{signs_in}
use Rattle.session_shares.specs.Shares.{NamesFit}
use Rattle.query_plan.specs.Sizes.{least_of}
use Rattle.query_plan.specs.declared.plan.Query.{Query}
use Rattle.query_run.specs.Both.{Told}
use Rattle.query_run.specs.Stopped.{MakesFew}
use Rattle.query_run.specs.Through.{rows_through}
use Rattle.spill_top.specs.Pooled.{MaySpendNames, all_tell}
use Rattle.spill_top.specs.Running.{Seen, SomeSpends, told_over}
use Rattle.spill_top.specs.Sides.{told_of}
use Rattle.spill_top.specs.Together.{AreAllStays, Stay, Stayed, numbers_of}
use Rattle.spill_top.proofs.Pools.{if-tells, names-more, some-so}

-- ---- how many names queries have together

-- a query with fewer rows has fewer names
few-or-many : (query : Query) (told : Option Told) (n : ℕ) → IfSome told (λ both. n ≤ 16 * rows_through query both) → MaySpendNames query told ⊎ (n + 16 ≤ 576460752303423488)
few-or-many query None n few = inl tt
few-or-many query (Some both) n few = elim (cases_lt (rows_through query both) (2 ^ 55)) [
  | inl less ↦ inr (omega (arith, less, few))
  | inr many ↦ inl many
]

module _ (start : Seen) (names : ℕ → ℕ) where
  -- its session made at most sixteen pages for each of its rows, where they are told
  abbrev pub HasFew : Query → Stay → Type 0
  HasFew query stay = IfSome (told_over query start) (λ both. names stay.first.number ≤ 16 * rows_through query both)

  abbrev pub EachHasFew : List Query → List (Option Stay) → Type 0
  EachHasFew queries stays = (place : ℕ) (query : Query) (stay : Stay) → slice_get queries place ≡ Some query → slice_get stays place ≡ Some (Some stay) → HasFew query stay

  behind : (query : Query) (queries : List Query) → SomeSpends queries start → SomeSpends (query ∷ queries) start
  behind query queries some = (suc some.0, some.1, some.2, some.3)

  -- one of them has very many rows, or all together have few names
  pub spends_or_few : (queries : List Query) (stays : List (Option Stay)) → length stays ≡ length queries → EachHasFew queries stays
      → SomeSpends queries start ⊎ (sum_by names (numbers_of stays) ≤ length queries * 576460752303423488)
  spends_or_few [] [] many each = inr (omega arith)
  spends_or_few [] (stay ∷ stays) many each = absurd (omega (arith, many))
  spends_or_few (query ∷ queries) [] many each = absurd (omega (arith, many))
  spends_or_few (query ∷ queries) (None ∷ stays) many each = elim (spends_or_few queries stays (omega (arith, many)) (λ place. each (suc place))) [
    | inl some ↦ inl (behind query queries some)
    | inr few ↦ inr (omega (arith, few))
  ]
  spends_or_few (query ∷ queries) (Some stay ∷ stays) many each = elim (few-or-many query (told_over query start) (names stay.first.number) (each 0 query stay refl refl)) [
    | inl so ↦ inl (0, query, refl, so)
    | inr one ↦ elim (spends_or_few queries stays (omega (arith, many)) (λ place. each (suc place))) [
      | inl some ↦ inl (behind query queries some)
      | inr few ↦
          let both = sum_by-cons names stay.first.number (numbers_of stays) in
          inr (omega (arith, one, few, both))
    ]
  ]

-- ---- what the pass has seen of them

module _ (o : Opening) (told : Bool) (start : Seen) (pass : Spot Item) (tell : told ≡ all_tell start.slots) where
  -- the names of a session's entries are those that its query made
  few_names : (query : Query) (stay : Stay) → Stayed o told query pass stay
      → (told ≡ true → IfSome (told_of query start.files) (λ both. MakesFew (16 * rows_through query both) (signs_by o stay.first) (signs_by o stay.last)))
      → IfSome (told_over query start) (λ both. length (names_in (own_in stay.first.number pass.knows.seen)) ≤ 16 * rows_through query both)
  unfolding signs_in
  few_names query stay stayed showed =
      if-tells (all_tell start.slots) (told_of query start.files) _ (λ tells. some-so _ _ (told_of query start.files) (λ both few.
      let m : ℕ = stay.first.number in
      let before : List Entry = history (beginning_items m stayed.tracker query.limit query.quota (least_of query o.block_len)) in
      let more : List Entry = few.0 in
      let last : own_in m stay.last.spot.knows.seen ≡ before ++ more =
      ap (λ (k : ℕ). own_in k stay.last.spot.knows.seen) (sym stayed.number) ∙ same_Some _ _ few.1 ∙ ap (λ (h : List Entry). h ++ more) stayed.came in
      let all : length (names_in (own_in m pass.knows.seen)) ≡ length (names_in (own_in m stay.last.spot.knows.seen)) + length (names_in stayed.went) =
      ap (λ (h : List Entry). length (names_in h)) stayed.own ∙ names-more (own_in m stay.last.spot.knows.seen) stayed.went in
      let split : length (names_in (own_in m stay.last.spot.knows.seen)) ≡ length (names_in before) + length (names_in more) =
      ap (λ (h : List Entry). length (names_in h)) last ∙ names-more before more in
      let first : length (names_in before) ≡ 0 = refl in
      let went : length (names_in stayed.went) ≡ 0 = ap length stayed.unnamed in
      let most = few.2 in
      omega (arith, all, split, first, went, most)) (showed (tell ∙ tells)))

  module _ (queries : List Query) (stays : List (Option Stay)) (many : length stays ≡ length queries) (most : length queries ≤ 16) (all : AreAllStays pass stays)
      (each : (place : ℕ) (query : Query) (stay : Stay) → slice_get queries place ≡ Some query → slice_get stays place ≡ Some (Some stay) → Stayed o told query pass stay)
      (made : (place : ℕ) (query : Query) (stay : Stay) → slice_get queries place ≡ Some query → slice_get stays place ≡ Some (Some stay)
      → told ≡ true → IfSome (told_of query start.files) (λ both. MakesFew (16 * rows_through query both) (signs_by o stay.first) (signs_by o stay.last)))
      (law : NamesFit) (zero : o.first_name ≡ 0) (legal : IsLegal o (history pass.knows.seen)) (marked : AllByRecursion IsMarked pass.knows.seen) where
    abbrev names : ℕ → ℕ
    names m = length (names_in (filter (is_by m) (history pass.knows.seen)))

    each_few : EachHasFew start names queries stays
    each_few place query stay at_query at =
        let stayed : Stayed o told query pass stay = each place query stay at_query at in
        let own = all.names marked stay.first.number stayed.low in
        some-so _ _ (told_over query start) (λ both few. omega (arith, own, few)) (few_names query stay stayed (made place query stay at_query at))

    -- one of the sessions shows that no name is left
    pub some_spends : (place : ℕ) (query : Query) (stay : Stay) → slice_get queries place ≡ Some query → slice_get stays place ≡ Some (Some stay) → (signs_by o stay.last).spent ≡ true → SomeSpends queries start
    unfolding signs_in
    some_spends place query stay at_query at spent =
        let stayed : Stayed o told query pass stay = each place query stay at_query at in
        let last_name : 18446744073709551615 ≤ o.first_name + length (names_in (history stay.last.spot.knows.seen)) = leb-true _ _ spent in
        let split : length (names_in (history pass.knows.seen)) ≡ length (names_in (history stay.last.spot.knows.seen)) + length (names_in (history stayed.more)) =
        ap (λ (items : List Item). length (names_in (history items))) stayed.seen ∙ ap (λ (h : List Entry). length (names_in h)) (history_more stay.last.spot.knows.seen stayed.more)
        ∙ names-more (history stay.last.spot.knows.seen) (history stayed.more) in
        let fits = law o (history pass.knows.seen) (numbers_of stays) legal all.among in
        elim (spends_or_few start names queries stays many each_few) [
          | inl some ↦ some
          | inr few ↦ absurd (omega (arith, last_name, zero, split, fits, few, most))
        ]
