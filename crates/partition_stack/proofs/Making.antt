-- Pages that calls make, one call after the other.
use Rattle.std.proofs.Common.{◌≡◌, ◌∙◌, ℕ, zero, suc, ◌+◌, ◌<◌, ◌≤◌, List, [], ◌∷◌, ◌++◌, length, Option, Some, None, refl, ap, sym, subst, arith, append-nil, append_assoc}
use Rattle.std.specs.Prelude.{⊤, slice_get}
use Rattle.std.proofs.lemmas.List.{length-append}
use Rattle.pool_model.specs.LookingBack.{name_in, names_in}
use Rattle.pool_model.specs.declared.entry.Entry.{Entry}
use Rattle.pool_model.specs.declared.event.Event.{Event}
use Rattle.store_api.specs.Holdings.{Holdings}
use Rattle.store_api.specs.Signs.{Entered, Signs}
use Rattle.store_api.proofs.Names.{names_both}
use Rattle.tuple_stream.specs.Families.{Family, FamilySteps, GoesAll, LaysAll, ShowAll, pages_in}
use Rattle.tuple_stream.specs.Spending.{Empties, Goes}
use Rattle.tuple_stream.specs.Steps.{Lays, Reads, Scene, scene}
use Rattle.tuple_stream.specs.Streamed.{Streamed}
use Rattle.tuple_stream.specs.Trails.{EnteredEvents, creates_in, events_of}
use Rattle.partition_stack.specs.Changes.{EndsAll, HaveEnded}
use Rattle.partition_stack.specs.Making.{MakesBeside, MakesFew}

pub names_are : (entries : List Entry) → length (names_in entries) ≡ creates_in (events_of entries)
names_are [] = refl
names_are (e ∷ entries) = go (name_in e.event) refl (names_are entries)
  where
    go : (o : Option ℕ) → name_in e.event ≡ o → length (names_in entries) ≡ creates_in (events_of entries) → length (names_in (e ∷ entries)) ≡ creates_in (events_of (e ∷ entries))
    go None is rest = rw is rest
    go (Some name) is rest = rw is (ap suc rest)

names_sum : (first next : List Entry) → length (names_in (first ++ next)) ≡ length (names_in first) + length (names_in next)
names_sum first next = ap length (names_both first next) ∙ length-append (names_in first) (names_in next)

entered_so : (P Q : List Entry → Type 0) → ((more : List Entry) → P more → Q more) → (a b : Option (List Entry)) → Entered P a b → Entered Q a b
entered_so P Q so None b entered = entered
entered_so P Q so (Some before) b entered = (entered.0, entered.1, so entered.0 entered.2)

entered_none : (P : List Entry → Type 0) → P [] → (a : Option (List Entry)) → Entered P a a
entered_none P none None = refl
entered_none P none (Some before) = ([], ap Some (sym (append-nil before)), none)

entered_both : (P Q R : List Entry → Type 0) → ((first next : List Entry) → P first → Q next → R (first ++ next)) → (a b c : Option (List Entry)) → Entered P a b → Entered Q b c → Entered R a c
entered_both P Q R both None b c first second = subst (λ (o : Option (List Entry)). Entered Q o c) first second
entered_both P Q R both (Some before) b c first second =
    let next : Entered Q (Some (before ++ first.0)) c = subst (λ (o : Option (List Entry)). Entered Q o c) first.1 second in
    (first.0 ++ next.0, next.1 ∙ ap Some (append_assoc before first.0 next.0), both first.0 next.0 first.2 next.2)

-- ---- without an emitter

pub few_none : (s : Signs) → MakesFew 0 s s
few_none s = entered_none (λ more. length (names_in more) ≤ 0) (omega arith) s.trail

pub few_entries : (most : ℕ) (P : List Entry → Type 0) (s r : Signs) → ((more : List Entry) → P more → creates_in (events_of more) ≤ most) → Entered P s.trail r.trail → MakesFew most s r
few_entries most P s r few entered =
    entered_so P (λ more. length (names_in more) ≤ most) (λ more holds. let same = names_are more in let less = few more holds in omega (arith, same, less)) s.trail r.trail entered

pub few_events : (most : ℕ) (P : List Event → Type 0) (s r : Signs) → ((events : List Event) → P events → creates_in events ≤ most) → EnteredEvents P s.trail r.trail → MakesFew most s r
few_events most P s r few entered = few_entries most (λ more. P (events_of more)) s r (λ more holds. few (events_of more) holds) entered

pub few_both : (m n most : ℕ) (a b c : Signs) → m + n ≤ most → MakesFew m a b → MakesFew n b c → MakesFew most a c
few_both m n most a b c less first second =
    entered_both (λ more. length (names_in more) ≤ m) (λ more. length (names_in more) ≤ n) (λ more. length (names_in more) ≤ most) (λ x y one two. let sum = names_sum x y in omega (arith, less, sum, one, two)) a.trail b.trail c.trail first second

pub few_less : (m most : ℕ) (a b : Signs) → m ≤ most → MakesFew m a b → MakesFew most a b
few_less m most a b less few = entered_so (λ more. length (names_in more) ≤ m) (λ more. length (names_in more) ≤ most) (λ more one. omega (arith, less, one)) a.trail b.trail few

-- reading makes none
pub reading_makes : (t : ℕ) (s now : Streamed) (h k : Holdings) (a b : Signs) → Reads t (scene s h a) (scene now k b) → now ≡ record s { pinned = now.pinned } → MakesFew 0 a b
reading_makes t s now h k a b went same =
    let long : length now.pages ≡ length s.pages = ap (λ (x : Streamed). length x.pages) same in
    few_events 0 (Lays ⊥ ⊤ (scene s h a) (scene now k b)) a b (λ events lays. let creates = lays.creates in omega (arith, creates, long)) went.step.trail

-- rows are taken out without one
pub going_makes : (t : ℕ) (f g : Family) → FamilySteps (GoesAll f g) t f g → MakesFew 0 f.signs g.signs
going_makes t f g steps = few_events 0 (GoesAll f g) f.signs g.signs (λ events goes. let none = goes.creates in omega (arith, none)) steps.trail

pub emptied_makes : (t : ℕ) (a b : Scene) → Empties t a b → MakesFew 0 a.signs b.signs
emptied_makes t a b steps = few_events 0 (Goes a b) a.signs b.signs (λ events goes. let none = goes.creates in omega (arith, none)) steps.trail

pub ending_makes : (t : ℕ) (f g : Family) → EndsAll t f g → MakesFew 0 f.signs g.signs
ending_makes t f g ends = few_events 0 (HaveEnded f) f.signs g.signs (λ events ended. let none = ended.creates in omega (arith, none)) ends.trail

-- and rows are appended, or pages rest, with as many as there are more
pub laying_makes : {K R : Type 0} (most t : ℕ) (f g : Family) → pages_in g ≤ pages_in f + most → FamilySteps (LaysAll K R f g) t f g → MakesFew most f.signs g.signs
laying_makes {K} {R} most t f g few steps = few_events most (LaysAll K R f g) f.signs g.signs (λ events lays. let creates = lays.creates in omega (arith, creates, few)) steps.trail

-- ---- beside what an emitter counts

pub counts_none : (creates : ℕ) (s : Signs) → MakesBeside 0 creates creates s s
counts_none creates s = entered_none (λ more. creates + length (names_in more) ≤ creates + 0) (omega arith) s.trail

pub few_counts : (most creates : ℕ) (a b : Signs) → MakesFew most a b → MakesBeside most creates creates a b
few_counts most creates a b few = entered_so (λ more. length (names_in more) ≤ most) (λ more. creates + length (names_in more) ≤ creates + most) (λ more one. omega (arith, one)) a.trail b.trail few

pub counts_both : (m n most c0 c1 c2 : ℕ) (a b c : Signs) → m + n ≤ most → MakesBeside m c0 c1 a b → MakesBeside n c1 c2 b c → MakesBeside most c0 c2 a c
counts_both m n most c0 c1 c2 a b c less first second =
    entered_both (λ more. c0 + length (names_in more) ≤ c1 + m) (λ more. c1 + length (names_in more) ≤ c2 + n) (λ more. c0 + length (names_in more) ≤ c2 + most) (λ x y one two. let sum = names_sum x y in omega (arith, less, sum, one, two)) a.trail b.trail c.trail first second

pub counts_less : (m most c0 c1 : ℕ) (a b : Signs) → m ≤ most → MakesBeside m c0 c1 a b → MakesBeside most c0 c1 a b
counts_less m most c0 c1 a b less beside = entered_so (λ more. c0 + length (names_in more) ≤ c1 + m) (λ more. c0 + length (names_in more) ≤ c1 + most) (λ more one. omega (arith, less, one)) a.trail b.trail beside

-- what an emitter counts is all that its call made
pub counts_emit : (c0 c1 : ℕ) (a b : Signs) → Entered (λ more. c0 + length (names_in more) ≤ c1) a.trail b.trail → MakesBeside 0 c0 c1 a b
counts_emit c0 c1 a b made = entered_so (λ more. c0 + length (names_in more) ≤ c1) (λ more. c0 + length (names_in more) ≤ c1 + 0) (λ more one. omega (arith, one)) a.trail b.trail made

-- ---- by the rows of a partition

there_is : {X : Type 0} (xs : List X) (at : ℕ) → at < length xs → (x : X) × (slice_get xs at ≡ Some x)
there_is [] at inside = absurd (omega (arith, inside))
there_is (x ∷ xs) zero inside = (x, refl)
there_is (x ∷ xs) (suc at) inside = there_is xs at (omega (arith, inside))

pub few_counted : (rows : ℕ → List (List ℕ)) (f : Family) (at : ℕ) (a b : Signs) → at < length f.streams → ShowAll rows f → ((s : Streamed) → slice_get f.streams at ≡ Some s → MakesFew s.count a b) → MakesFew (length (rows at)) a b
few_counted rows f at a b inside shows few =
    let here = there_is f.streams at inside in
    subst (λ (n : ℕ). MakesFew n a b) (shows at here.0 here.1).counted (few here.0 here.1)
