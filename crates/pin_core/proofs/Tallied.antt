-- What slots count together, over what entries make of it.
use Rattle.std.proofs.Common.{◌≡◌, ℕ, ◌+◌, ◌≤◌, List, [], ◌∷◌, ◌++◌, length, length-append, map, filter, Bool, true, false, if◌then◌else◌, Option, refl, sym, ap, ◌∙◌, subst, arith}
use Rattle.std.proofs.lemmas.List.Elements.{filter-append}
use Rattle.std.proofs.lemmas.List.Sums.{sum_by-cons}
use Rattle.std.specs.List.{sum_by}
use Rattle.outside.specs.declared.slot.Slot.{Ghosts}
use Rattle.scratch_dev.specs.Rows.{stores_in, uncounted_in, stores_at, uncounted, faults_of, CountsStores}
use Rattle.pool_model.specs.declared.event.Event.{Event as What}
use Rattle.pool_model.specs.declared.event.Event.TheVariants.{ReadFailed, ReadStale, WriteOk, WriteFailed}
use Rattle.pool_model.specs.declared.entry.Entry.{Entry as Event}
use Rattle.pool_model.specs.Failures.{fails}
use Rattle.store_api.specs.Signs.{is_stale_load}
use Rattle.pin_core.specs.declared.tally.Tally.{Tally}
use Rattle.pin_core.specs.calls.Runs.{CountsFaults, CountsStrays, is_sure}
use Rattle.pin_core.specs.Tallies.{Counted, all_failures, all_stale, stored_by, silence, tally_by}
use Rattle.pin_core.specs.Plain.{ArePlain, is_plain}

-- nothing happened
pub uncounted_yet : (t : Tally) → Counted 0 0 0 t t
uncounted_yet t = record { never_fall = omega arith; failed = λ free. omega arith; stays = omega arith; stores = λ all. omega arith; short = omega arith; strays = λ all. omega arith; loose = omega arith; silent = refl; slots = refl }

pub counted_more : (f g b d s t : ℕ) (x y z : Tally) → Counted f b s x y → Counted g d t y z → Counted (f + g) (b + d) (s + t) x z
counted_more f g b d s t x y z one two =
    let fall = one.never_fall in
    let fall_too = two.never_fall in
    let short = one.short in
    let short_too = two.short in
    let loose = one.loose in
    let loose_too = two.loose in
    let stays = one.stays in
    let stays_too = two.stays in record {
      never_fall = omega (arith, fall, fall_too);
      failed = λ free.
          let later = two.failed free in
          let first = one.failed (omega (arith, free, stays_too)) in
          omega (arith, first, later);
      stays = omega (arith, stays, stays_too);
      stores = λ all.
          let later = two.stores all in
          let first = one.stores (omega (arith, all, short_too)) in
          omega (arith, first, later);
      short = omega (arith, short, short_too);
      strays = λ all.
          let later = two.strays all in
          let first = one.strays (omega (arith, all, loose_too)) in
          omega (arith, first, later);
      loose = omega (arith, loose, loose_too);
      silent = two.silent ∙ one.silent;
      slots = two.slots ∙ one.slots;
    }

pub counted_as : (f g b d s t : ℕ) (x y : Tally) → f ≡ g → b ≡ d → s ≡ t → Counted f b s x y → Counted g d t x y
counted_as f g b d s t x y failures blocks stale it = subst (λ (n : ℕ). Counted g d n x y) stale (subst (λ (n : ℕ). Counted g n s x y) blocks (subst (λ (n : ℕ). Counted n b s x y) failures it))

-- the same sums are the same tally
pub tally_same : {D : Type 0} (slot : Ghosts D) (f g : (D → ℕ) → ℕ) → ((measure : D → ℕ) → f measure ≡ g measure) → tally_by slot f ≡ tally_by slot g
tally_same slot f g same = λ i. tally_by slot (λ measure. same measure i)

ones : {D : Type 0} (xs : List D) → sum_by (λ d. 1) xs ≡ length xs
ones [] = refl
ones (x ∷ xs) =
    let first = sum_by-cons (λ d. 1) x xs in
    let rest = ones xs in
    omega (arith, first, rest)

-- slots with the same counts of stores
map_sum : {D : Type 0} (f : D → Option ℕ) (g : Option ℕ → ℕ) (xs : List D) → sum_by (λ d. g (f d)) xs ≡ sum_by g (map f xs)
map_sum f g [] = refl
map_sum f g (x ∷ xs) = sum_by-cons (λ d. g (f d)) x xs ∙ ap (λ (n : ℕ). g (f x) + n) (map_sum f g xs) ∙ sym (sum_by-cons g (f x) (map f xs))

pub same_stores : {D : Type 0} (slot : Ghosts D) (before now : List D) → map slot.stores before ≡ map slot.stores now → CountsStores slot 0 before now
same_stores slot before now same =
    let short : sum_by (uncounted slot) before ≡ sum_by (uncounted slot) now = map_sum slot.stores uncounted_in before ∙ ap (sum_by uncounted_in) same ∙ sym (map_sum slot.stores uncounted_in now) in
    let stores : sum_by (stores_at slot) before ≡ sum_by (stores_at slot) now = map_sum slot.stores stores_in before ∙ ap (sum_by stores_in) same ∙ sym (map_sum slot.stores stores_in now) in
    record { short = omega (arith, short); stores = λ all. omega (arith, stores) }

-- the slots of a job came back, beside those that were home
pub came_back : {D : Type 0} (slot : Ghosts D) (home : (D → ℕ) → ℕ) (before now : List D) (failures blocks stale : ℕ)
    → faults_of slot before ≤ faults_of slot now → CountsFaults slot failures before now → CountsStores slot blocks before now → CountsStrays slot stale before now
    → sum_by (silence slot) now ≡ sum_by (silence slot) before → length now ≡ length before
    → Counted failures blocks stale (tally_by slot (λ measure. home measure + sum_by measure before)) (tally_by slot (λ measure. home measure + sum_by measure now))
came_back slot home before now failures blocks stale fall faults stores strays silent len =
    let loose = strays.loose in
    let short = stores.short in
    let stays = faults.stays in record {
      never_fall = omega (arith, fall);
      failed = λ free. let more = faults.faults (omega (arith, free)) in omega (arith, more);
      stays = omega (arith, stays);
      stores = λ all. let more = stores.stores (omega (arith, all)) in omega (arith, more);
      short = omega (arith, short);
      strays = λ all. let more = strays.strays (omega (arith, all)) in omega (arith, more);
      loose = omega (arith, loose);
      silent = ap (λ (n : ℕ). home (silence slot) + n) silent;
      slots = ap (λ (n : ℕ). home (λ d. 1) + n) (ones now ∙ len ∙ sym (ones before));
    }

-- failures and blocks of entries, one after the other
pub failures_append : (a b : List Event) → all_failures (a ++ b) ≡ all_failures a + all_failures b
failures_append a b =
    ap length (filter-append (λ (e : Event). fails (λ made. true) a e.event) a b)
    ∙ length-append (filter (λ (e : Event). fails (λ made. true) a e.event) a) (filter (λ (e : Event). fails (λ made. true) a e.event) b)

pub stale_append : (a b : List Event) → all_stale (a ++ b) ≡ all_stale a + all_stale b
stale_append a b =
    ap length (filter-append (λ (e : Event). is_stale_load e.event) a b) ∙ length-append (filter (λ (e : Event). is_stale_load e.event) a) (filter (λ (e : Event). is_stale_load e.event) b)

-- rows that tell alike are alike in how many tell
weigh_alike : {D : Type 0} (tells : D → Bool) (xs : List D) → sum_by (λ d. if tells d then 0 else 1) xs ≡ sum_by (λ (t : Bool). if t then 0 else 1) (map tells xs)
weigh_alike tells [] = refl
weigh_alike tells (d ∷ xs) =
    sum_by-cons (λ e. if tells e then 0 else 1) d xs ∙ ap (λ (n : ℕ). (if tells d then 0 else 1) + n) (weigh_alike tells xs)
    ∙ sym (sum_by-cons (λ (t : Bool). if t then 0 else 1) (tells d) (map tells xs))

pub same_silence : {D : Type 0} (slot : Ghosts D) (a b : List D) → map (is_sure slot) a ≡ map (is_sure slot) b → sum_by (silence slot) a ≡ sum_by (silence slot) b
same_silence slot a b same = weigh_alike (is_sure slot) a ∙ ap (sum_by (λ (t : Bool). if t then 0 else 1)) same ∙ sym (weigh_alike (is_sure slot) b)

-- plain entries are no failures, and stored nothing
pub plain_failure : (m : ℕ) (e : What) → is_plain e ≡ true → all_failures (record { maker = m; event = e } ∷ []) ≡ 0
plain_failure m (ReadFailed p before now) plain = let never : false ≡ true = plain in cc
plain_failure m (WriteFailed p before now) plain = let never : false ≡ true = plain in cc
plain_failure m _ plain = refl

pub none_stale : (m : ℕ) (e : What) → is_plain e ≡ true → all_stale (record { maker = m; event = e } ∷ []) ≡ 0
none_stale m (ReadStale p wanted found) plain = let never : false ≡ true = plain in cc
none_stale m _ plain = refl

pub plain_failures : (events : List Event) → ArePlain events → all_failures events ≡ 0
plain_failures [] plain = refl
plain_failures (e ∷ events) plain =
    let both = failures_append (e ∷ []) events in
    let first = plain_failure e.maker e.event plain.0 in
    let rest = plain_failures events plain.1 in
    omega (arith, both, first, rest)

pub plain_stale : (events : List Event) → ArePlain events → all_stale events ≡ 0
plain_stale [] plain = refl
plain_stale (e ∷ events) plain =
    let both = stale_append (e ∷ []) events in
    let first = none_stale e.maker e.event plain.0 in
    let rest = plain_stale events plain.1 in
    omega (arith, both, first, rest)

pub plain_stored : (h : List Event) (e : What) → is_plain e ≡ true → stored_by h e ≡ 0
plain_stored h (WriteOk p) plain = let never : false ≡ true = plain in cc
plain_stored h _ plain = refl

pub plain_stores : (h events : List Event) → ArePlain events → sum_by (λ e. stored_by h e.event) events ≡ 0
plain_stores h [] plain = refl
plain_stores h (e ∷ events) plain =
    let both = sum_by-cons (λ (x : Event). stored_by h x.event) e events in
    let first = plain_stored h e.event plain.0 in
    let rest = plain_stores h events plain.1 in
    omega (arith, both, first, rest)

pub plain_append : (a b : List Event) → ArePlain a → ArePlain b → ArePlain (a ++ b)
plain_append [] b one two = two
plain_append (e ∷ a) b one two = (one.0, plain_append a b one.1 two)
