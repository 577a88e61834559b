-- What was handed on pass after pass.
use Rattle.std.proofs.Common.{◌≡◌, ◌∙◌, ℕ, ◌+◌, ◌-◌, ◌≤◌, ◌<◌, true, List, [], ◌∷◌, ◌++◌, length, take, drop, Option, Some, None, refl, ap, sym, subst, arith, append-nil, append_assoc, length-append}
use Rattle.std.specs.Prelude.{All, filter, IsSome}
use Rattle.std.specs.Option.{option_to_list}
use Rattle.std.specs.Cmp.Lexicographic.{slice_cmp}
use Rattle.std.specs.Ordering.{nat_cmp}
use Rattle.std.proofs.lemmas.List.{length-map, length-take, map-append, take-append-drop, take_all}
use Rattle.std.proofs.lemmas.List.Elements.{All-filter, All-head, All-tail, All-take}
use Rattle.row_codec.specs.declared.values.Value.{Value}
use Rattle.store_api.specs.declared.shapes.Shape.{Shape}
use Rattle.store_api.specs.Holdings.{Holdings}
use Rattle.tuple_stream.specs.Streamed.{Streamed}
use Rattle.tuple_stream.specs.Streams.{HasRows}
use Rattle.group_rows.specs.Kept.{AreOrdered}
use Rattle.group_rows.specs.Partials.{Partial, combined_by}
use Rattle.group_rows.proofs.Paths.{bytes_is_order}
use Rattle.group_rows.proofs.Tables.{no_more}
use Rattle.group_op.specs.declared.lowest.Entry.{Entry}
use Rattle.group_op.specs.Emission.{AdmitsAll, Emitted, EmittedFront, Says}
use Rattle.group_op.specs.Keepings.{HasKept, IsKept, all_above, is_above, key_in, kept_in, lowest_above}
use Rattle.group_op.specs.Scanning.{MayShow, ReadBeside, groups_by_bytes}
use Rattle.group_op.specs.Stored.{grouping_of, partial_at, partials_at}
use Rattle.group_op.proofs.Emitting.{emitted_behind, emitted_none, front_behind, front_none}
use Rattle.group_op.proofs.Passes.{behind_entry, groups_above}
use Rattle.group_op.proofs.Readings.{groups_ordered}

all_pass : (ps : List Partial) → filter (λ p. true) ps ≡ ps
all_pass [] = refl
all_pass (p ∷ ps) = ap (λ (xs : List Partial). p ∷ xs) (all_pass ps)

-- above a key stand the groups of what is above it
above_groups : (shape : Shape) (last : Option (List ℕ)) (rows : List (List ℕ)) → combined_by (slice_cmp nat_cmp) (grouping_of shape) (all_above last (partials_at shape rows)) ≡ all_above last (groups_by_bytes shape rows)
above_groups shape None rows = ap (combined_by (slice_cmp nat_cmp) (grouping_of shape)) (all_pass (partials_at shape rows)) ∙ sym (all_pass (groups_by_bytes shape rows))
above_groups shape (Some q) rows = groups_above (slice_cmp nat_cmp) bytes_is_order (grouping_of shape) q (partials_at shape rows)

pub lowest_are : (shape : Shape) (room : ℕ) (last : Option (List ℕ)) (rows : List (List ℕ)) → lowest_above room (grouping_of shape) last (partials_at shape rows) ≡ take room (all_above last (groups_by_bytes shape rows))
lowest_are shape room last rows = ap (take room) (above_groups shape last rows)

-- where some of the groups were handed on, in order, all up to a key
pub record HasHanded (shape : Shape) (last : Option (List ℕ)) (left : ℕ) (took0 took : List (List Value) → Type 0) (rows : List (List ℕ)) : Type 0 where
  pub some : List Partial
  pub split : groups_by_bytes shape rows ≡ some ++ all_above last (groups_by_bytes shape rows)
  pub emitted : Emitted shape took0 took some
  pub few : length rows ≤ left + length some

pub handed_none : (shape : Shape) (left : ℕ) (took : List (List Value) → Type 0) (rows : List (List ℕ)) → length rows ≤ left → HasHanded shape None left took took rows
handed_none shape left took rows few =
    record {
      some = [];
      split = sym (all_pass (groups_by_bytes shape rows));
      emitted = emitted_none shape took;
      few = omega (arith, few);
    }

none_left : (xs : List Partial) → length xs ≡ 0 → xs ≡ []
none_left [] none = refl
none_left (x ∷ xs) none = absurd (omega (arith, none))

module _ (shape : Shape) (last : Option (List ℕ)) (left : ℕ) (took0 took : List (List Value) → Type 0) (rows : List (List ℕ)) (so : HasHanded shape last left took0 took rows) where
  -- what was taken stays
  pub handed_still : (now : List (List Value) → Type 0) → ((taken : List (List Value)) → took taken → now taken) → HasHanded shape last left took0 now rows
  handed_still now still =
      record {
        some = so.some;
        split = so.split;
        emitted = record { rows = so.emitted.rows; say = so.emitted.say; came = λ taken was. still (taken ++ so.emitted.rows) (so.emitted.came taken was) };
        few = so.few;
      }

  -- they are the first of all
  pub handed_first : EmittedFront shape took0 took (groups_by_bytes shape rows)
  handed_first = front_behind shape took0 took took so.some so.emitted [] (all_above last (groups_by_bytes shape rows)) (groups_by_bytes shape rows) so.split (front_none shape took [])

  -- as many as there are rows are all
  pub handed_end : left ≡ 0 → Emitted shape took0 took (groups_by_bytes shape rows)
  handed_end end =
      let groups : List Partial = groups_by_bytes shape rows in
      let whole : length groups ≡ length so.some + length (all_above last groups) = ap length so.split ∙ length-append so.some (all_above last groups) in
      let most = no_more (slice_cmp nat_cmp) (grouping_of shape) (partials_at shape rows) in
      let same = length-map rows (partial_at shape) in
      let few = so.few in
      let none : all_above last groups ≡ [] = none_left (all_above last groups) (omega (arith, whole, most, same, few, end)) in
      let all : groups ≡ so.some = so.split ∙ ap (λ (xs : List Partial). so.some ++ xs) none ∙ append-nil so.some in
      subst (Emitted shape took0 took) (sym all) so.emitted

  module _ (room : ℕ) (entries : List Entry) (kept : kept_in shape entries ≡ take room (all_above last (groups_by_bytes shape rows))) where
    parts : groups_by_bytes shape rows ≡ so.some ++ (kept_in shape entries ++ drop room (all_above last (groups_by_bytes shape rows)))
    parts =
        so.split ∙ ap (λ (xs : List Partial). so.some ++ xs) (sym (take-append-drop room (all_above last (groups_by_bytes shape rows))))
        ∙ ap (λ (xs : List Partial). so.some ++ (xs ++ drop room (all_above last (groups_by_bytes shape rows)))) (sym kept)

    pub handed_front : (now : List (List Value) → Type 0) → EmittedFront shape took now (kept_in shape entries) → EmittedFront shape took0 now (groups_by_bytes shape rows)
    handed_front now front = front_behind shape took0 took now so.some so.emitted (kept_in shape entries) (drop room (all_above last (groups_by_bytes shape rows))) (groups_by_bytes shape rows) parts front

    -- fewer than there is room for were the last ones
    pub handed_all : (now : List (List Value) → Type 0) → length entries < room → Emitted shape took now (kept_in shape entries) → Emitted shape took0 now (groups_by_bytes shape rows)
    handed_all now short emitted =
        let rest : List Partial = all_above last (groups_by_bytes shape rows) in
        let long = length-map entries (λ (e : Entry). partial_at shape e.row.items) in
        let same = ap length kept in
        let cut = length-take room rest in
        let whole : take room rest ≡ rest = take_all room rest (omega (arith, long, same, cut, short)) in
        let all : groups_by_bytes shape rows ≡ so.some ++ kept_in shape entries = so.split ∙ ap (λ (xs : List Partial). so.some ++ xs) (sym (kept ∙ whole)) in
        subst (Emitted shape took0 now) (sym all) (emitted_behind shape took0 took now so.some so.emitted (kept_in shape entries) emitted)

    -- else reading goes on above the last of them
    pub handed_more : (now : List (List Value) → Type 0) (front : List Entry) (e : Entry) (less : ℕ) → entries ≡ front ++ e ∷ [] → IsKept shape e → less ≡ left - length entries → Emitted shape took now (kept_in shape entries) → HasHanded shape (Some e.key.items) less took0 now rows
    handed_more now front e less all is fewer emitted =
        let groups : List Partial = groups_by_bytes shape rows in
        let p : Partial = partial_at shape e.row.items in
        let rest : List Partial = drop room (all_above last groups) in
        let ends : kept_in shape entries ≡ kept_in shape front ++ p ∷ [] = ap (kept_in shape) all ∙ map-append (λ (e : Entry). partial_at shape e.row.items) front (e ∷ []) in
        let cut : groups ≡ (so.some ++ kept_in shape front) ++ p ∷ rest =
        parts ∙ ap (λ (xs : List Partial). so.some ++ (xs ++ rest)) ends ∙ ap (λ (xs : List Partial). so.some ++ xs) (append_assoc (kept_in shape front) (p ∷ []) rest)
        ∙ sym (append_assoc so.some (kept_in shape front) (p ∷ rest)) in
        let above : all_above (Some e.key.items) groups ≡ rest =
        ap (λ (q : List ℕ). all_above (Some q) groups) is.key
        ∙ ap (all_above (Some p.key)) cut
        ∙ behind_entry (slice_cmp nat_cmp) bytes_is_order (grouping_of shape) (so.some ++ kept_in shape front) rest p (subst (AreOrdered (slice_cmp nat_cmp)) cut (groups_ordered (grouping_of shape) (partials_at shape rows))) in
        let long : length (so.some ++ kept_in shape entries) ≡ length so.some + length entries = length-append so.some (kept_in shape entries) ∙ ap (λ (n : ℕ). length so.some + n) (length-map entries (λ (e : Entry). partial_at shape e.row.items)) in
        let few = so.few in
        record {
          some = so.some ++ kept_in shape entries;
          split =
              parts ∙ sym (append_assoc so.some (kept_in shape entries) rest)
              ∙ ap (λ (xs : List Partial). (so.some ++ kept_in shape entries) ++ xs) (sym above);
          emitted = emitted_behind shape took0 took now so.some so.emitted (kept_in shape entries) emitted;
          few = omega (arith, few, long, fewer);
        }

-- what a pass kept, where the rows are known
pub kept_known : (shape : Shape) (room : ℕ) (last : Option (List ℕ)) (entries : List Entry) (s : Streamed) (h : Holdings) (rows : List (List ℕ)) → HasKept shape room last entries s h → h.told ≡ true → HasRows rows s h
    → kept_in shape entries ≡ take room (all_above last (groups_by_bytes shape rows))
kept_known shape room last entries s h rows has told shows =
    has.kept ∙ lowest_are shape room last has.read ∙ ap (λ (read : List (List ℕ)). take room (all_above last (groups_by_bytes shape read))) (has.shown rows told shows)

-- whatever was read, the emitter admits it
pub kept_admitted : (shape : Shape) (room : ℕ) (last : Option (List ℕ)) (entries : List Entry) (t : ℕ) (client : Option ℕ) (s0 s : Streamed) (h0 h : Holdings) (admits0 admits : List Value → Type 0) → HasKept shape room last entries s h → ReadBeside t client s0 s h0 h
    → ((row : List Value) → admits0 row → admits row) → ((read : List (List ℕ)) → MayShow s0 h0 read → AdmitsAll shape admits0 (groups_by_bytes shape read)) → AdmitsAll shape admits (kept_in shape entries)
kept_admitted shape room last entries t client s0 s h0 h admits0 admits has beside same all =
    let P : Partial → Type 0 = λ p. (row : List Value) → Says shape p row → admits0 row in
    let shown : MayShow s0 h0 has.read = λ rows told shows. has.shown rows (beside.query.told ∙ told) (beside.rows rows told shows) in
    let lowest : All P (take room (all_above last (groups_by_bytes shape has.read))) =
    All-take P room (all_above last (groups_by_bytes shape has.read)) (All-filter (λ p. is_above last p.key) P (groups_by_bytes shape has.read) (all has.read shown)) in
    let these : All P (kept_in shape entries) = subst (All P) (sym (has.kept ∙ lowest_are shape room last has.read)) lowest in
    λ k d inside row says. same row (these k d inside row says)

last_one : (P : Entry → Type 0) (front : List Entry) (e : Entry) → All P (front ++ e ∷ []) → P e
last_one P [] e all = All-head P e [] all
last_one P (x ∷ front) e all = last_one P front e (All-tail P x (front ++ e ∷ []) all)

pub handed_popped : (shape : Shape) (last : Option (List ℕ)) (left : ℕ) (took0 took : List (List Value) → Type 0) (rows : List (List ℕ)) → HasHanded shape last left took0 took rows → (room : ℕ) (entries : List Entry) → kept_in shape entries ≡ take room (all_above last (groups_by_bytes shape rows))
    → (now : List (List Value) → Type 0) (front : List Entry) (o : Option Entry) (less : ℕ) → IsSome o → entries ≡ front ++ option_to_list o → All (IsKept shape) entries → less ≡ left - length entries → Emitted shape took now (kept_in shape entries)
    → HasHanded shape (key_in o) less took0 now rows
handed_popped shape last left took0 took rows so room entries kept now front None less some all each fewer emitted = absurd cc
handed_popped shape last left took0 took rows so room entries kept now front (Some e) less some all each fewer emitted =
    handed_more shape last left took0 took rows so room entries kept now front e less all (last_one (IsKept shape) front e (subst (All (IsKept shape)) all each)) fewer emitted
