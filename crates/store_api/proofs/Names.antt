-- How many pages the entries of a call make: one where a page is created, and else none.
use Rattle.std.proofs.Common.{◌≡◌, ℕ, ◌+◌, ◌≤◌, List, [], ◌∷◌, ◌++◌, length, Option, Some, None, All, refl, ap, sym, ◌∙◌, subst, inl, inr, arith, append_assoc}
use Rattle.std.proofs.lemmas.List.{length-append, map-append}
use Rattle.std.proofs.lemmas.List.Elements.{All-head, All-tail, filter_map-append}
use Rattle.reservation_tree.specs.declared.errors.PoolErr.{PoolErr}
use Rattle.reservation_tree.specs.declared.errors.PoolErr.TheVariants.{WriteFault, ReadFault, NamesSpent, Stale}
use Rattle.pool_model.specs.declared.call.Call.{Call}
use Rattle.pool_model.specs.declared.call.Call.TheVariants as call
use Rattle.pool_model.specs.declared.event.Event.{Event}
use Rattle.pool_model.specs.declared.event.Event.TheVariants.{Create, StartWrite, WriteOk, WriteFailed, Evict}
use Rattle.pool_model.specs.declared.entry.Entry.{Entry}
use Rattle.pool_model.specs.LookingBack.{name_in, names_in}
use Rattle.store_api.specs.Holdings.{Holdings}
use Rattle.store_api.specs.Signs.{Signs, Entered}
use Rattle.store_api.specs.Entries.{by, AreWrites, IsEvict, IsAsked, IsTaken, IsPin, IsRefusal, Made, MadeThese}

-- where the trail is told, it grew by entries that make at most so many pages
abbrev pub MakesPages : ℕ → Signs → Signs → Type 0
MakesPages n old new = Entered (λ more. length (names_in more) ≤ n) old.trail new.trail

pub names_both : (first last : List Entry) → names_in (first ++ last) ≡ names_in first ++ names_in last
names_both first last = filter_map-append (λ (e : Entry). name_in e.event) first last

module _ (maker : ℕ) where
  abbrev names_by : List Event → List ℕ
  names_by events = names_in (by maker events)

  by_both : (first last : List Event) → names_by (first ++ last) ≡ names_by first ++ names_by last
  by_both first last = ap names_in (map-append (λ (e : Event). record { maker = maker; event = e }) first last) ∙ names_both (by maker first) (by maker last)

  writes_make : (t : ℕ) (h : Holdings) (writes : List Event) → AreWrites t h writes → names_by writes ≡ []
  writes_make t h [] are = refl
  writes_make t h (StartWrite p ∷ WriteOk q ∷ rest) (own, same, are) = writes_make t h rest are
  writes_make t h (StartWrite p ∷ WriteFailed q before after ∷ rest) (own, same, are) = writes_make t h rest are
  writes_make t h _ are = absurd are

  evicts_make : (evicts : List Event) → All IsEvict evicts → names_by evicts ≡ []
  evicts_make [] are = refl
  evicts_make (Evict p ∷ rest) are = evicts_make rest (All-tail IsEvict (Evict p) rest are)
  evicts_make (e ∷ rest) are = absurd (All-head IsEvict e rest are)

  -- what the last entries of a call make is all that it makes
  pub asked_makes : (t : ℕ) (h : Holdings) (last events : List Event) → IsAsked t h last events → names_by events ≡ names_by last
  asked_makes t h last events asked =
      ap names_by asked.2 ∙ by_both asked.0 last ∙ ap (λ (names : List ℕ). names ++ names_by last) (writes_make t h asked.0 asked.1)

  pub taken_makes : (t : ℕ) (h : Holdings) (last events : List Event) → IsTaken t h last events → names_by events ≡ names_by last
  taken_makes t h last events taken =
      asked_makes t h (taken.0 ++ last) events taken.2 ∙ by_both taken.0 last ∙ ap (λ (names : List ℕ). names ++ names_by last) (evicts_make taken.0 taken.1)

  -- a pin makes none, and neither does a call that is refused
  pub pin_makes : (t : ℕ) (h : Holdings) (p : ℕ) (events : List Event) → IsPin t h p events → names_by events ≡ []
  pin_makes t h p events (inl here) = asked_makes t h _ events here
  pin_makes t h p events (inr loaded) = taken_makes t h _ events loaded

  pub refusal_makes : (t : ℕ) (h : Holdings) (what : Call) (e : PoolErr) (events : List Event) → IsRefusal t h what e events → names_by events ≡ []
  refusal_makes t h what (WriteFault entry) events was = asked_makes t h _ events was
  refusal_makes t h (call.Pin p) (ReadFault entry) events was = taken_makes t h _ events was.2
  refusal_makes t h (call.Pin p) (Stale wanted found) events was = taken_makes t h _ events was.1
  refusal_makes t h what NamesSpent events was = asked_makes t h _ events was
  refusal_makes t h what _ events was = ap names_by was

pub entered_so : (P Q : List Entry → Type 0) → ((more : List Entry) → P more → Q more) → (old new : Option (List Entry)) → Entered P old new → Entered Q old new
entered_so P Q so None new entered = entered
entered_so P Q so (Some before) new entered = (entered.0, entered.1, so entered.0 entered.2)

-- a call makes as many pages as its entries do
pub made_makes : (maker n : ℕ) (P : List Event → Type 0) (old new : Signs) → ((events : List Event) → P events → length (names_in (by maker events)) ≤ n) → Made maker P old new → MakesPages n old new
made_makes maker n P old new few made =
    entered_so (λ more. (events : List Event) × (more ≡ by maker events) × P events) (λ more. length (names_in more) ≤ n)
    (λ more was. subst (λ (es : List Entry). length (names_in es) ≤ n) (sym was.1) (few was.0 was.2)) old.trail new.trail made

entered_both : (n m : ℕ) (a b c : Option (List Entry)) → Entered (λ more. length (names_in more) ≤ n) a b → Entered (λ more. length (names_in more) ≤ m) b c → Entered (λ more. length (names_in more) ≤ n + m) a c
entered_both n m None b c first second = subst (λ (o : Option (List Entry)). Entered (λ more. length (names_in more) ≤ m) o c) first second
entered_both n m (Some before) b c first second =
    let next : Entered (λ more. length (names_in more) ≤ m) (Some (before ++ first.0)) c = subst (λ (o : Option (List Entry)). Entered (λ more. length (names_in more) ≤ m) o c) first.1 second in
    let sum : length (names_in (first.0 ++ next.0)) ≡ length (names_in first.0) + length (names_in next.0) = ap length (names_both first.0 next.0) ∙ length-append (names_in first.0) (names_in next.0) in
    (first.0 ++ next.0, next.1 ∙ ap Some (append_assoc before first.0 next.0), omega (arith, sum, first.2, next.2))

-- two calls make what both make
pub makes_both : (n m : ℕ) (a b c : Signs) → MakesPages n a b → MakesPages m b c → MakesPages (n + m) a c
makes_both n m a b c first second = entered_both n m a.trail b.trail c.trail first second

-- a call that creates a page makes one, and one whose entries are these makes as many as they do
pub creation_makes : (maker t : ℕ) (h : Holdings) (p client blocks key : ℕ) (old new : Signs) → Made maker (IsTaken t h (Create p client blocks key ∷ [])) old new → MakesPages 1 old new
creation_makes maker t h p client blocks key old new made =
    made_makes maker 1 (IsTaken t h (Create p client blocks key ∷ [])) old new
    (λ events taken. let one : length (names_in (by maker events)) ≡ 1 = ap length (taken_makes maker t h (Create p client blocks key ∷ []) events taken) in omega (arith, one)) made

pub these_make : (maker n : ℕ) (events : List Event) (old new : Signs) → length (names_in (by maker events)) ≤ n → MadeThese maker events old new → MakesPages n old new
these_make maker n events old new few made =
    made_makes maker n (λ es. es ≡ events) old new (λ es is. subst (λ (xs : List Event). length (names_in (by maker xs)) ≤ n) (sym is) few) made

-- a count of pages that rises by as many as a call makes
pub counts_made : (n before after : ℕ) (old new : Signs) → after ≡ before + n → MakesPages n old new → Entered (λ more. before + length (names_in more) ≤ after) old.trail new.trail
counts_made n before after old new is made =
    entered_so (λ more. length (names_in more) ≤ n) (λ more. before + length (names_in more) ≤ after) (λ more few. omega (arith, is, few)) old.trail new.trail made
