-- A load that ended badly is the last one of its page, and one that failed is counted.
use Rattle.std.proofs.Common.{◌≡◌, ℕ, ◌+◌, ◌<◌, ◌&&◌, ◌==◌, Bool, true, false, cond, if◌then◌else◌, List, [], ◌∷◌, ◌++◌, length, length-append, filter, Option, Some, None, option_map, refl, ap, ◌∙◌, arith, eq-eqb}
use Rattle.std.proofs.lemmas.Bool.{and_from}
use Rattle.std.proofs.lemmas.List.Elements.{filter-append}
use Rattle.std.specs.Option.{option_or}
use Rattle.pool_model.specs.declared.event.Event.{Event}
use Rattle.pool_model.specs.declared.event.Event.TheVariants.{ReadFailed}
use Rattle.pool_model.specs.declared.entry.Entry.{Entry}
use Rattle.pool_model.specs.LookingBack.{since, last_of, Numbered, numbered, is_ask, is_by, Made, makes, maker_of}
use Rattle.pool_model.specs.Failures.{failed_page, fails, failures_in, fails_read, last_failed_read}
use Rattle.pool_model.proofs.Windows.{numbered_more, since_more}

last_is_last : {X : Type 0} (o : Option X) (xs : List X) (y : X) → last_of o (xs ++ y ∷ []) ≡ Some y
last_is_last o [] y = refl
last_is_last o (x ∷ xs) y = last_is_last (Some x) xs y

-- the number of a read that ended badly is the last
pub failed_last : (h : List Entry) (m p : ℕ) (event : Event) → fails_read p event ≡ true → is_ask event ≡ false → last_failed_read (h ++ record { maker = m; event = event } ∷ []) m p ≡ Some (length h)
failed_last h m p event fails goes_on =
    let failed : Entry = record { maker = m; event = event } in
    let y : Numbered = record { number = 0 + length h; entry = failed } in
    let begins : Numbered → Bool = λ n. is_by m n.entry && is_ask n.entry.event in
    let picks : Numbered → Bool = λ n. is_by m n.entry && fails_read p n.entry.event in
    let by_m : (m == m) ≡ true = eq-eqb m m refl in
    let asks : begins y ≡ false = ap (λ (b : Bool). b && is_ask event) by_m ∙ goes_on in
    let picked : picks y ≡ true = and_from (m == m) (fails_read p event) by_m fails in
    let window : since begins [] (numbered 0 (h ++ failed ∷ [])) ≡ since begins [] (numbered 0 h) ++ y ∷ [] =
    ap (since begins []) (numbered_more 0 h failed) ∙ since_more begins [] (numbered 0 h) y ∙ ap (λ (b : Bool). if b then y ∷ [] else since begins [] (numbered 0 h) ++ y ∷ []) asks in
    ap (λ (ns : List Numbered). option_map (λ n. n.number) (last_of None (filter picks ns))) window
    ∙ ap (λ (ns : List Numbered). option_map (λ n. n.number) (last_of None ns)) (filter-append picks (since begins [] (numbered 0 h)) (y ∷ []) ∙ ap (λ (b : Bool). filter picks (since begins [] (numbered 0 h)) ++ cond b (y ∷ []) []) picked)
    ∙ ap (option_map (λ n. n.number)) (last_is_last None (filter picks (since begins [] (numbered 0 h))) y)
    ∙ (let same : 0 + length h ≡ length h = omega arith in ap Some same)

module _ (h : List Entry) (m p before now : ℕ) where
  abbrev failed : Entry
  failed = record { maker = m; event = ReadFailed p before now }

  -- no page was made by it
  makers_stay : (es : List Entry) (q : ℕ) → maker_of (es ++ failed ∷ []) q ≡ maker_of es q
  makers_stay [] q = refl
  makers_stay (e ∷ es) q = ap (option_or (makes q e.maker e.event)) (makers_stay es q)

  -- where the page is one of those whose failures are counted
  pub failed_counts : (whose : Option Made → Bool) → whose (maker_of h p) ≡ true → failures_in whose h < failures_in whose (h ++ failed ∷ [])
  failed_counts whose is =
      let told : failures_in whose (h ++ failed ∷ []) ≡ length (filter (λ e. fails whose h e.event) (h ++ failed ∷ [])) =
      (λ i. length (filter (λ e. elim (failed_page e.event) [ None ↦ false | Some q ↦ whose (makers_stay h q i) ]) (h ++ failed ∷ []))) in
      let parts : length (filter (λ e. fails whose h e.event) (h ++ failed ∷ [])) ≡ failures_in whose h + length (filter (λ e. fails whose h e.event) (failed ∷ [])) =
      ap length (filter-append (λ (e : Entry). fails whose h e.event) h (failed ∷ [])) ∙ length-append (filter (λ e. fails whose h e.event) h) (filter (λ e. fails whose h e.event) (failed ∷ [])) in
      let one : length (filter (λ e. fails whose h e.event) (failed ∷ [])) ≡ 1 = ap (λ (b : Bool). length (if b then failed ∷ [] else [])) is in
      omega (arith, told, parts, one)
