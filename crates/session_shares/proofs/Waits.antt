-- What a session left by its own entries waits to be written, or was stored, whoever else makes entries.
use Rattle.std.proofs.Common.{◌≡◌, ℕ, ◌+◌, ◌*◌, ◌≤◌, List, [], ◌∷◌, ◌++◌, length, All, Some, None, false, true, mul-le-mul, le_refl, refl, ap, sym, ◌∙◌, subst, inl, inr, arith}
use Rattle.std.specs.Ordering.{nat_cmp}
use Rattle.std.specs.FinMap.{get-empty}
use Rattle.std.specs.List.{sum_by}
use Rattle.std.proofs.lemmas.List.{map-append}
use Rattle.std.proofs.lemmas.List.Elements.{All-pop, filter_map-append}
use Rattle.std.proofs.lemmas.List.Sums.{sum_by-append, sum_by-cons}
use Rattle.reservation_tree.proofs.Maps.{same_or_other}
use Rattle.pool_model.specs.declared.event.Event.{Event}
use Rattle.pool_model.specs.declared.event.Event.TheVariants.{Unpin}
use Rattle.pool_model.specs.declared.entry.Entry.{Entry}
use Rattle.pool_model.specs.State.{Opening, State}
use Rattle.pool_model.specs.LookingBack.{opens, made_by}
use Rattle.pool_model.specs.MayFollow.{MayFollow}
use Rattle.pool_model.specs.Effects.{after}
use Rattle.pool_model.specs.Legal.{state_after, IsLegal}
use Rattle.pool_model.specs.Sound.{IsSound}
use Rattle.pool_model.proofs.Frames.{entries_leave_rest}
use Rattle.pool_model.proofs.Fronts.{holds_after}
use Rattle.pool_model.proofs.Made.{TellsPages, still_made, tells_on}
use Rattle.pool_model.proofs.OwnEntries.{made_by_other, made_more, made_first}
use Rattle.tuple_stream.specs.Trails.{Left, left_by, IsBuilding, all_left, events_of}
use Rattle.session_shares.specs.Shares.{stored_for, written_for}
use Rattle.session_shares.proofs.Stored.{written_more}
use Rattle.session_shares.proofs.Unwritten.{unwritten_for}
use Rattle.session_shares.proofs.Steps.{len_left, left_for, left_own, keeps}

-- how many bytes entries leave in pages
abbrev pub bytes_left : List Entry → ℕ
bytes_left es = sum_by (λ l. length l.bytes) (all_left (events_of es))

-- these neither pin a page again nor end one
abbrev pub Build : List Entry → Type 0
Build es = All IsBuilding (events_of es)

one_left : (e : Event) → sum_by (λ l. length l.bytes) (all_left (e ∷ [])) ≡ len_left e
one_left (Unpin p content) = omega arith
one_left _ = refl

bytes_push : (es : List Entry) (e : Entry) → bytes_left (es ++ e ∷ []) ≡ bytes_left es + len_left e.event
bytes_push es e =
    let bytes : List Left → ℕ = sum_by (λ (l : Left). length l.bytes) in
    let lefts : all_left (events_of (es ++ e ∷ [])) ≡ all_left (events_of es) ++ all_left (e.event ∷ []) =
    ap all_left (map-append (λ (d : Entry). d.event) es (e ∷ [])) ∙ filter_map-append left_by (events_of es) (e.event ∷ []) in
    let sum : bytes (all_left (events_of (es ++ e ∷ []))) ≡ bytes (all_left (events_of es)) + bytes (all_left (e.event ∷ [])) = ap bytes lefts ∙ sum_by-append (λ (l : Left). length l.bytes) (all_left (events_of es)) (all_left (e.event ∷ [])) in
    let one = one_left e.event in
    omega (arith, sum, one)

build_push : (es : List Entry) (e : Entry) → Build (es ++ e ∷ []) → Build es × IsBuilding e.event
build_push es e all = All-pop IsBuilding (events_of (es ++ e ∷ [])) (events_of es) (Some e.event) (map-append (λ (d : Entry). d.event) es (e ∷ [])) all

module _ (m len : ℕ) where
  -- where a session's entries neither pin a page again nor end one, what they left waits to be written, or was stored
  pub record Waits (h : List Entry) (s : State) : Type 0 where
    pub block_len : s.block_len ≡ len
    pub tells : TellsPages h s
    pub left : Build (made_by h m) → bytes_left (made_by h m) ≤ written_for m h * len + unwritten_for m len s.pages

  module _ (before : List Entry) (s : State) (sound : IsSound s) (e : Entry) (may : MayFollow before s e) where
    abbrev now : List Entry
    now = before ++ e ∷ []

    -- by an entry of the session that comes behind these, or by one of others
    grown : (es : List Entry) → Waits before s → (e.maker ≡ m → IsBuilding e.event) → bytes_left es ≤ written_for m before * len + unwritten_for m len s.pages
        → left_for m e.maker e.event + bytes_left es ≤ written_for m now * len + unwritten_for m len (after s e).pages
    grown es waits building was =
        let step = keeps m len now before s sound waits.block_len waits.tells (λ p made known. still_made before (e ∷ []) p made known) e.maker e.event may.allows building in
        let stored : written_for m before + sum_by (λ d. stored_for m now d.event) (e ∷ []) ≤ written_for m now = written_more m before (e ∷ []) in
        let one = sum_by-cons (λ (d : Entry). stored_for m now d.event) e [] in
        let both : written_for m before + stored_for m now e.event ≤ written_for m now = omega (arith, stored, one) in
        let amount : (written_for m before + stored_for m now e.event) * len ≤ written_for m now * len = mul-le-mul both (le_refl len) in
        omega (arith, step, was, amount)

    -- the session's own entry
    by_itself : Waits before s → e.maker ≡ m → (es : List Entry) → (Build es → bytes_left es ≤ written_for m before * len + unwritten_for m len s.pages)
        → made_by now m ≡ es ++ e ∷ [] → Build (made_by now m) → bytes_left (made_by now m) ≤ written_for m now * len + unwritten_for m len (after s e).pages
    by_itself waits own es were is build =
        let all : Build es × IsBuilding e.event = build_push es e (subst Build is build) in
        let more = grown es waits (λ same. all.1) (were all.0) in
        let mine = left_own m e.maker own e.event in
        let sum = bytes_push es e in
        let bytes : bytes_left (made_by now m) ≡ bytes_left (es ++ e ∷ []) = ap bytes_left is in
        omega (arith, more, mine, sum, bytes)

    left_on : Waits before s → Build (made_by now m) → bytes_left (made_by now m) ≤ written_for m now * len + unwritten_for m len (after s e).pages
    left_on waits build = elim (same_or_other e.maker m) [
      | inl own ↦ elim (opens e.event) as (λ b. opens e.event ≡ b → bytes_left (made_by now m) ≤ written_for m now * len + unwritten_for m len (after s e).pages) [
        | true ↦ λ new. by_itself waits own [] (λ none. omega arith) (made_first before e m own new) build
        | false ↦ λ old. by_itself waits own (made_by before m) waits.left (made_more before e m own old) build
      ] refl
      | inr other ↦
          let same : made_by now m ≡ made_by before m = made_by_other before e m other in
          let more = grown (made_by before m) waits (λ own. absurd (other own)) (waits.left (subst Build same build)) in
          let bytes : bytes_left (made_by now m) ≡ bytes_left (made_by before m) = ap bytes_left same in
          omega (arith, more, bytes)
    ]

  waits_on : (before : List Entry) (s : State) → IsSound s → Waits before s → (e : Entry) → MayFollow before s e → Waits (before ++ e ∷ []) (after s e)
  waits_on before s sound waits e may = record {
    block_len = (entries_leave_rest s e).block_len ∙ waits.block_len;
    tells = tells_on before s sound waits.tells e may;
    left = left_on before s sound e may waits;
  }

pub legal_waits : (o : Opening) (h : List Entry) → IsLegal o h → (m : ℕ) → Waits m o.block_len h (state_after o h)
legal_waits o h legal m = holds_after (Waits m o.block_len) (waits_on m o.block_len) o (record {
  block_len = refl;
  tells = record {
    as_made = λ p x is. let none : None ≡ Some x = sym (get-empty nat_cmp p) ∙ is in cc;
    fresh = λ p above. refl;
  };
  left = λ build. omega arith;
}) h legal
