-- No entry leaves bytes in a page before it is made.
use Rattle.std.proofs.Common.{◌≡◌, ℕ, ◌≤◌, ◌<◌, ◌==◌, Bool, true, false, ◌&&◌, ◌||◌, if◌then◌else◌, List, [], ◌∷◌, ◌++◌, filter, refl, ap, ◌∙◌, arith, ne_eqb}
use Rattle.std.specs.List.{list_any}
use Rattle.pool_model.specs.declared.event.Event.{Event}
use Rattle.pool_model.specs.declared.event.Event.TheVariants.{Unpin}
use Rattle.pool_model.specs.declared.entry.Entry.{Entry}
use Rattle.pool_model.specs.State.{State}
use Rattle.pool_model.specs.LookingBack.{since, is_by, opens, made_by, left_in, content_from}
use Rattle.pool_model.specs.MayFollow.{Allows, MayFollow}
use Rattle.pool_model.specs.Effects.{effect, after}
use Rattle.pool_model.specs.Sound.{IsSound}
use Rattle.pool_model.proofs.Made.{next_more}

-- an event that leaves bytes in this page
abbrev pub leaves : ℕ → Event → Bool
leaves p (Unpin q content) = q == p
leaves p _ = false

pub not_left : (p : ℕ) (event : Event) (old : List ℕ) → leaves p event ≡ false → left_in p event old ≡ old
not_left p (Unpin q content) old is = ap (λ (b : Bool). if b then content else old) is
not_left p _ old is = refl

-- none of these leaves bytes in the page
abbrev pub IsUntouched : ℕ → List Entry → Type 0
IsUntouched p h = list_any (λ e. leaves p e.event) h ≡ false

or_parts : (a b : Bool) → (a || b) ≡ false → (a ≡ false) × (b ≡ false)
or_parts true b is = let never : true ≡ false = is in cc
or_parts false b is = (refl, is)

both_false : (a b : Bool) → a ≡ false → b ≡ false → (a || b) ≡ false
both_false a b first second = ap (λ (c : Bool). c || b) first ∙ second

pub content_stays : (p : ℕ) (old : List ℕ) (h : List Entry) → IsUntouched p h → content_from p old h ≡ old
content_stays p old [] quiet = refl
content_stays p old (e ∷ h) quiet =
    let parts = or_parts (leaves p e.event) (list_any (λ d. leaves p d.event) h) quiet in
    ap (λ (now : List ℕ). content_from p now h) (not_left p e.event old parts.0) ∙ content_stays p old h parts.1

pub untouched_more : (p : ℕ) (h : List Entry) (e : Entry) → IsUntouched p h → leaves p e.event ≡ false → IsUntouched p (h ++ e ∷ [])
untouched_more p [] e quiet not = both_false (leaves p e.event) false not refl
untouched_more p (d ∷ h) e quiet not =
    let parts = or_parts (leaves p d.event) (list_any (λ c. leaves p c.event) h) quiet in
    both_false (leaves p d.event) (list_any (λ c. leaves p c.event) (h ++ e ∷ [])) parts.0 (untouched_more p h e parts.1 not)

filtered : (p : ℕ) (test : Entry → Bool) (h : List Entry) → IsUntouched p h → IsUntouched p (filter test h)
filtered p test [] quiet = refl
filtered p test (e ∷ h) quiet =
    let parts = or_parts (leaves p e.event) (list_any (λ d. leaves p d.event) h) quiet in
    elim (test e) as (λ b. list_any (λ d. leaves p d.event) (if b then e ∷ filter test h else filter test h) ≡ false) [
      | true ↦ both_false (leaves p e.event) (list_any (λ d. leaves p d.event) (filter test h)) parts.0 (filtered p test h parts.1)
      | false ↦ filtered p test h parts.1
    ]

untouched_since : (p : ℕ) (begins : Entry → Bool) (kept h : List Entry) → IsUntouched p kept → IsUntouched p h → IsUntouched p (since begins kept h)
untouched_since p begins kept [] before quiet = before
untouched_since p begins kept (e ∷ h) before quiet =
    let parts = or_parts (leaves p e.event) (list_any (λ d. leaves p d.event) h) quiet in
    elim (begins e) as (λ b. IsUntouched p (since begins (if b then e ∷ [] else kept ++ e ∷ []) h)) [
      | true ↦ untouched_since p begins (e ∷ []) h (both_false (leaves p e.event) false parts.0 refl) parts.1
      | false ↦ untouched_since p begins (kept ++ e ∷ []) h (untouched_more p kept e before parts.0) parts.1
    ]

pub own_untouched : (p : ℕ) (h : List Entry) (m : ℕ) → IsUntouched p h → IsUntouched p (made_by h m)
own_untouched p h m quiet = filtered p (is_by m) (since (λ d. is_by m d && opens d.event) [] h) (untouched_since p (λ d. is_by m d && opens d.event) [] h refl quiet)

-- a name that isn't given yet is in no unpin
not_yet : (before : List Entry) (s : State) → IsSound s → (maker : ℕ) (event : Event) → Allows before s maker event → (p : ℕ) → s.next_name ≤ p → leaves p event ≡ false
not_yet before s sound maker (Unpin q content) may p above = ne_eqb q p (λ same. let low : q < s.next_name = sound.owned.names q may.page may.own.lives in omega (arith, same, low, above))
not_yet before s sound maker _ may p above = refl

-- the pages that are still to come
abbrev pub AreUntouched : List Entry → State → Type 0
AreUntouched h s = (p : ℕ) → s.next_name ≤ p → IsUntouched p h

pub untouched_on : (before : List Entry) (s : State) → IsSound s → AreUntouched before s → (e : Entry) → MayFollow before s e → AreUntouched (before ++ e ∷ []) (after s e)
untouched_on before s sound quiet e may p above =
    let more : s.next_name ≤ (effect e.maker e.event s).next_name = next_more before s e.maker e.event may.allows in
    let low : s.next_name ≤ p = omega (arith, more, above) in
    untouched_more p before e (quiet p low) (not_yet before s sound e.maker e.event may.allows p low)
