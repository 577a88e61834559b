-- Bytes are known by their blocks.
use Rattle.std.proofs.Common.{◌≡◌, ℕ, zero, suc, ◌+◌, ◌*◌, ◌-◌, ◌<◌, ◌≤◌, Bool, true, List, [], ◌∷◌, ◌++◌, length, drop, Option, Some, refl, ap, sym, ◌∙◌, subst, arith, suc-mul, zero-mul, mul-le-mul_right, None, inl, inr, length-append}
use Rattle.std.specs.List.{slice_range, slice_index_or}
use Rattle.std.proofs.lemmas.List.{length-drop, length-take, drop_at}
use Rattle.std.proofs.lemmas.List.Folds.{drop_split}
use Rattle.outside.specs.Slots.{told_block, ShowsHeld, Strays, Gave, GivesHeld}
use Rattle.outside.specs.declared.slot.Slot.{Ghosts}
use Rattle.pin_core.specs.Marking.{front_of}
use Rattle.pin_core.specs.Standing.{AreHeld}

empty_is : (xs : List ℕ) → length xs ≡ 0 → xs ≡ []
empty_is [] none = refl
empty_is (x ∷ xs) none = absurd (omega (arith, none))

past : (n : ℕ) (xs : List ℕ) → length xs ≡ n → drop n xs ≡ []
past n xs is = empty_is (drop n xs) (let d = length-drop n xs in omega (arith, d, is))

more_of : (i len : ℕ) → i * len + len ≡ suc i * len
more_of i len = sym (suc-mul i len)

module _ (len n : ℕ) (xs ys : List ℕ) (long_x : length xs ≡ n * len) (long_y : length ys ≡ n * len)
    (each : (i : ℕ) → i < n → slice_range xs (i * len) (i * len + len) ≡ slice_range ys (i * len) (i * len + len)) where
  rest_same : (k i : ℕ) → i + k ≡ n → drop (i * len) xs ≡ drop (i * len) ys
  rest_same zero i sum =
      let at : i ≡ n = omega (arith, sum) in
      let end : i * len ≡ n * len = ap (λ (m : ℕ). m * len) at in
      past (i * len) xs (long_x ∙ sym end) ∙ sym (past (i * len) ys (long_y ∙ sym end))
  rest_same (suc k) i sum =
      let behind : drop (suc i * len) xs ≡ drop (suc i * len) ys = rest_same k (suc i) (omega (arith, sum)) in
      let here = each i (omega (arith, sum)) in
      drop_split xs (i * len) (i * len + len) (omega arith)
      ∙ ap (λ (l : List ℕ). l ++ drop (i * len + len) xs) here
      ∙ ap (λ (l : List ℕ). slice_range ys (i * len) (i * len + len) ++ l) (ap (λ (m : ℕ). drop m xs) (more_of i len) ∙ behind ∙ sym (ap (λ (m : ℕ). drop m ys) (more_of i len)))
      ∙ sym (drop_split ys (i * len) (i * len + len) (omega arith))

  -- bytes with the same blocks are the same
  pub bytes_same : xs ≡ ys
  bytes_same =
      let start : drop (0 * len) xs ≡ drop (0 * len) ys = rest_same n 0 (omega arith) in
      sym (ap (λ (m : ℕ). drop m xs) (zero-mul len)) ∙ start ∙ ap (λ (m : ℕ). drop m ys) (zero-mul len)

-- what a load shows where the slot tells
pub tells_shown : (tells : Bool) (held : Option (List ℕ)) (block shown : List ℕ) → tells ≡ true → held ≡ told_block tells block → ShowsHeld held shown → length block ≡ length shown → shown ≡ block
tells_shown tells held block shown does is shows same =
    let held_is : held ≡ Some block = is ∙ ap (λ (b : Bool). told_block b block) does in
    (subst (λ (o : Option (List ℕ)). ShowsHeld o shown) held_is shows) same

pub block_length : (len n i : ℕ) (bytes : List ℕ) → length bytes ≡ n * len → i < n → length (slice_range bytes (i * len) (i * len + len)) ≡ len
block_length len n i bytes long lt =
    let d = length-drop (i * len) bytes in
    let t = length-take ((i * len + len) - i * len) (drop (i * len) bytes) in
    let fits : suc i * len ≤ n * len = mul-le-mul_right len lt in
    let more = more_of i len in
    omega (arith, d, t, long, fits, more)

pub some_of : {D : Type 0} (row : List D) (i : ℕ) → i < length row → D
some_of [] i lt = absurd (omega (arith, lt))
some_of (x ∷ xs) i lt = x

-- a load that didn't stray showed what the slot held
pub gives_held : (held : Option (List ℕ)) (before now : Option Strays) (shown : List ℕ) → Gave held before now shown → GivesHeld before now → ShowsHeld held shown
gives_held held before now shown (inl shows) gives = shows
gives_held held None now shown (inr strayed) gives = absurd gives
gives_held held (Some before) None shown (inr strayed) gives = absurd gives
gives_held held (Some before) (Some now) shown (inr strayed) (inl none) =
    let few : length before.further ≡ 0 = ap length none in
    absurd (let listed = strayed.0.1 in omega (arith, listed, few))
gives_held held (Some before) (Some now) shown (inr strayed) (inr still) =
    let rose : before.count < now.count = strayed.1 still.1 in
    absurd (let same = still.0 in omega (arith, rose, same))

-- what stands behind the same bytes
behind_same : (front xs ys : List ℕ) → front ++ xs ≡ front ++ ys → xs ≡ ys
behind_same front xs ys same = sym (drop_at front xs (length front) refl) ∙ ap (drop (length front)) same ∙ drop_at front ys (length front) refl

-- a buffer shows the bytes that its slots hold, where all of them tell
pub row_shown : {D : Type 0} (slot : Ghosts D) (under : Option ℕ) (name len n : ℕ) (row : List D) (bytes shown : List ℕ) → n ≡ length row → length bytes ≡ n * len → length shown ≡ n * len
    → AreHeld slot under name len row bytes → ((i : ℕ) (d : D) → i < length row → slot.tells (slice_index_or row i d) ≡ true)
    → ((i : ℕ) (d : D) → i < length row → ShowsHeld (slot.held (slice_index_or row i d)) (front_of under name i ++ slice_range shown (i * len) (i * len + len)))
    → shown ≡ bytes
row_shown slot under name len n row bytes shown count long same held tell shows =
    bytes_same len n shown bytes same long (λ i lt.
    let below : i < length row = omega (arith, lt, count) in
    let d = some_of row i below in
    let front : List ℕ = front_of under name i in
    let block : List ℕ = slice_range bytes (i * len) (i * len + len) in
    let piece : List ℕ = slice_range shown (i * len) (i * len + len) in
    let sizes : length block ≡ length piece = block_length len n i bytes long lt ∙ sym (block_length len n i shown same lt) in
    let one = length-append front block in
    let two = length-append front piece in
    behind_same front piece block
    (tells_shown (slot.tells (slice_index_or row i d)) (slot.held (slice_index_or row i d)) (front ++ block) (front ++ piece)
    (tell i d below) (held i d below) (shows i d below) (omega (arith, sizes, one, two))))
