-- What each step leaves of what a seat knows.
use Rattle.std.proofs.Common.{◌≡◌, ℕ, ◌+◌, ◌<◌, ◌≤◌, ◌≢◌, Bool, true, false, cond, nat_lt, List, [], ◌++◌, length, sym, refl, ap, ◌∙◌, arith, append-nil, append_assoc, ltb-true, ltb-false, Option}
use native.Mathlib.Decide.{dec_lt}
use mathlib.Core.Logic.{dite}
use Rattle.turn_table.specs.declared.view.Role.{Role}
use Rattle.turn_table.specs.declared.view.Stage.{Stage}
use Rattle.turn_table.specs.declared.view.Stage.TheVariants.{Idle, Waiting, Turn, Spent}
use Rattle.turn_table.specs.declared.view.View.{View}
use Rattle.turn_table.specs.Lists.{same, times, needed, entries, by, tagged, IsAmong}
use Rattle.turn_table.specs.Knowledge.{NeedsNone, GrewBeside, MadeWithin}
use Rattle.turn_table.specs.Rule.{turn_at, InTurn, Knows}
use Rattle.turn_table.specs.Steps.{one_less, taking, grown, newcomer, joined}
use Rattle.turn_table.proofs.Sums.{total-append, parts}
use Rattle.turn_table.proofs.Authors.{entries-append, entries-tagged, entries-length, by-append, by-tagged, by-tagged_other, nothing_twice, between}

module _ {A : Type 0} where
  pub resting : (s : ℕ) (b : List A) (stage : Stage) → turn_at stage ≡ 0 → InTurn s b stage
  resting s b Idle z = tt
  resting s b (Waiting t) z = tt
  resting s b (Turn t) z = absurd (omega arith)
  resting s b Spent z = tt

module _ {E : Type 0} (needs : E → List ℕ) where
  needed-append : (r : ℕ) (a b : List E) → needed needs r (a ++ b) ≡ needed needs r a + needed needs r b
  needed-append r a b = total-append (λ (e : E). times r (needs e)) a b

  needed_both : (r : ℕ) (a b : List (ℕ × E)) → needed needs r (entries (a ++ b)) ≡ needed needs r (entries a) + needed needs r (entries b)
  needed_both r a b = ap (needed needs r) (entries-append a b) ∙ needed-append r (entries a) (entries b)

  -- where nothing was told and no right is spared, it is so of each list
  pub told_nothing : (seen : List E) → GrewBeside needs [] [] seen
  told_nothing seen = record { behind = seen; grew = refl; beside = λ r h. absurd (omega arith) }

  module _ {j : ℕ} {written : List (ℕ × E)} {serving : ℕ} {v : View E} (k : Knows needs j written serving v) where
    pub all_entries : entries written ≡ v.seen ++ entries k.behind
    all_entries = ap (λ (z : List (ℕ × E)). entries z) k.whole ∙ entries-append k.front k.behind ∙ ap (λ (z : List E). z ++ entries k.behind) k.seen

    all_made : by j written ≡ v.made
    all_made = ap (λ (z : List (ℕ × E)). by j z) k.whole ∙ by-append j k.front k.behind ∙ ap (λ (z : List E). by j k.front ++ z) k.not_made ∙ append-nil (by j k.front) ∙ k.made

    -- nothing of what the seat knows is new, and its stage fits
    pub same_trail : (role : Role) (stage : Stage) (rights : List ℕ) → ((r : ℕ) → 0 < times r rights → 0 < times r v.rights) → InTurn serving k.behind stage
        → Knows needs j written serving record { role = role; stage = stage; seen = v.seen; made = v.made; told = v.told; spared = v.spared; rights = rights }
    same_trail role stage rights fewer fits = record {
      front = k.front;
      behind = k.behind;
      whole = k.whole;
      seen = k.seen;
      made = k.made;
      not_made = k.not_made;
      beside = λ r h. k.beside r (fewer r h);
      in_turn = fits;
      told = k.told;
    }

    pub knows_takes : Knows needs j written serving (taking serving (entries written) v)
    knows_takes = record {
      front = written;
      behind = [];
      whole = sym (append-nil written);
      seen = refl;
      made = all_made;
      not_made = refl;
      beside = λ r h. refl;
      in_turn = (refl, refl);
      told = told_nothing (entries written);
    }

    pub knows_grew : GrewBeside needs v.rights v.seen (entries written)
    knows_grew = record { behind = entries k.behind; grew = all_entries; beside = k.beside }

    pub knows_made : MadeWithin v.made (entries written)
    knows_made = (j, written, refl, all_made)

    pub knows_serves : (new : List E) (next : ℕ) → k.behind ≡ [] → Knows needs j (written ++ tagged j new) next (grown new v)
    knows_serves new next none = record {
      front = written ++ tagged j new;
      behind = [];
      whole = sym (append-nil (written ++ tagged j new));
      seen = entries-append written (tagged j new) ∙ ap (λ (z : List E). entries written ++ z) (entries-tagged j new) ∙ ap (λ (z : List E). z ++ new) (all_entries ∙ ap (λ (z : List (ℕ × E)). v.seen ++ entries z) none ∙ append-nil v.seen);
      made = by-append j written (tagged j new) ∙ ap (λ (z : List E). by j written ++ z) (by-tagged j new) ∙ ap (λ (z : List E). z ++ new) all_made;
      not_made = refl;
      beside = λ r h. refl;
      in_turn = tt;
      told = told_nothing (v.seen ++ new);
    }

    -- another seat adds entries, which need no right of this one
    pub knows_beside : (i : ℕ) (new : List E) (next : ℕ) → j ≢ i → NeedsNone needs v.rights new → turn_at v.stage ≡ 0 → Knows needs j (written ++ tagged i new) next v
    knows_beside i new next other free rests = record {
      front = k.front;
      behind = k.behind ++ tagged i new;
      whole = ap (λ (z : List (ℕ × E)). z ++ tagged i new) k.whole ∙ append_assoc k.front k.behind (tagged i new);
      seen = k.seen;
      made = k.made;
      not_made = by-append j k.behind (tagged i new) ∙ ap (λ (z : List E). z ++ by j (tagged i new)) k.not_made ∙ by-tagged_other j i new other;
      beside = λ r h. let both = needed_both r k.behind (tagged i new) in let none = k.beside r h in let added : needed needs r (entries (tagged i new)) ≡ 0 = ap (needed needs r) (entries-tagged i new) ∙ free r h in omega arith;
      in_turn = resting next (k.behind ++ tagged i new) v.stage rests;
      told = k.told;
    }

    -- a new seat begins with what this one has seen
    pub knows_newcomer : (i : ℕ) (right : Option ℕ) → by i written ≡ [] → IsAmong right v.rights → Knows needs i written serving (newcomer right v)
    knows_newcomer i right unseated among =
        let two = nothing_twice (by i k.front) (by i k.behind) (sym (by-append i k.front k.behind) ∙ ap (λ (z : List (ℕ × E)). by i z) (sym k.whole) ∙ unseated) in
        record {
          front = k.front;
          behind = k.behind;
          whole = k.whole;
          seen = k.seen;
          made = two.0;
          not_made = two.1;
          beside = λ r h. k.beside r (let p = parts right v.rights among r in omega arith);
          in_turn = tt;
          told = told_nothing v.seen;
        }

  -- where entries need none of these rights, no part of them does
  none_parts : (rights : List ℕ) (all a b : List (ℕ × E)) → all ≡ a ++ b → NeedsNone needs rights (entries all) → NeedsNone needs rights (entries a) × NeedsNone needs rights (entries b)
  none_parts rights all a b parted none =
      let sum = λ (r : ℕ). ap (λ (z : List (ℕ × E)). needed needs r (entries z)) parted ∙ needed_both r a b in
      (λ r h. let s = sum r in let z = none r h in omega arith, λ r h. let s = sum r in let z = none r h in omega arith)

  -- of two seats, the first has seen no more than the second
  module _ {i j : ℕ} {written : List (ℕ × E)} {serving : ℕ} {v w : View E} (k : Knows needs i written serving v) (l : Knows needs j written serving w) where
    further : length v.seen ≤ length w.seen → (more : List (ℕ × E)) × (l.front ≡ k.front ++ more) × (k.behind ≡ more ++ l.behind)
    further less = between k.front l.front k.behind l.behind (sym k.whole ∙ l.whole) (omega (arith, entries-length k.front, entries-length l.front, ap (λ (z : List E). length z) k.seen, ap (λ (z : List E). length z) l.seen))

    saw_beside : length v.seen ≤ length w.seen → GrewBeside needs v.rights v.seen w.seen
    saw_beside less =
        let b = further less in
        record {
          behind = entries b.0;
          grew = sym l.seen ∙ ap (λ (z : List (ℕ × E)). entries z) b.1 ∙ entries-append k.front b.0 ∙ ap (λ (z : List E). z ++ entries b.0) k.seen;
          beside = (none_parts v.rights k.behind b.0 l.behind b.2 k.beside).0;
        }

    rest_beside : length v.seen ≤ length w.seen → NeedsNone needs v.rights (entries l.behind)
    rest_beside less = let b = further less in (none_parts v.rights k.behind b.0 l.behind b.2 k.beside).1

  -- the first of two seats after a join, by which of them has seen more
  module _ {i j : ℕ} {written : List (ℕ × E)} {serving : ℕ} {v w : View E} (k : Knows needs i written serving v) (l : Knows needs j written serving w) where
    -- what needs no right of the one and none of the other needs none of both
    none_of_both : (log : List E) → NeedsNone needs v.rights log → NeedsNone needs w.rights log → NeedsNone needs (v.rights ++ w.rights) log
    none_of_both log free free_too r h = let sum = total-append (same r) v.rights w.rights in dite (dec_lt 0 (times r v.rights)) (λ yes. free r yes) (λ no. free_too r (omega arith))

    seen_more : length v.seen ≤ length w.seen → v.stage ≡ Idle
        → Knows needs i written serving record { role = one_less v.role; stage = v.stage; seen = w.seen; made = v.made; told = v.seen; spared = v.rights; rights = v.rights ++ w.rights }
    seen_more less idle =
        let b = further k l less in
        let none = nothing_twice (by i b.0) (by i l.behind) (sym (by-append i b.0 l.behind) ∙ ap (λ (z : List (ℕ × E)). by i z) (sym b.2) ∙ k.not_made) in
        record {
          front = l.front;
          behind = l.behind;
          whole = l.whole;
          seen = l.seen;
          made = ap (λ (z : List (ℕ × E)). by i z) b.1 ∙ by-append i k.front b.0 ∙ ap (λ (z : List E). by i k.front ++ z) none.0 ∙ append-nil (by i k.front) ∙ k.made;
          not_made = none.1;
          beside = none_of_both (entries l.behind) (rest_beside k l less) l.beside;
          in_turn = resting serving l.behind v.stage (ap turn_at idle);
          told = saw_beside k l less;
        }

    seen_less : length w.seen ≤ length v.seen → v.stage ≡ Idle
        → Knows needs i written serving record { role = one_less v.role; stage = v.stage; seen = v.seen; made = v.made; told = w.seen; spared = w.rights; rights = v.rights ++ w.rights }
    seen_less less idle = record {
      front = k.front;
      behind = k.behind;
      whole = k.whole;
      seen = k.seen;
      made = k.made;
      not_made = k.not_made;
      beside = none_of_both (entries k.behind) k.beside (rest_beside l k less);
      in_turn = resting serving k.behind v.stage (ap turn_at idle);
      told = saw_beside l k less;
    }

    joined_at : (t : Bool) → nat_lt (length v.seen) (length w.seen) ≡ t → v.stage ≡ Idle
        → Knows needs i written serving record { role = one_less v.role; stage = v.stage; seen = cond t w.seen v.seen; made = v.made; told = cond t v.seen w.seen; spared = cond t v.rights w.rights; rights = v.rights ++ w.rights }
    joined_at true less idle = seen_more (let lt = ltb-true (length v.seen) (length w.seen) less in omega arith) idle
    joined_at false less idle = seen_less (ltb-false (length v.seen) (length w.seen) less) idle

    pub knows_joined : v.stage ≡ Idle → Knows needs i written serving (joined v w)
    knows_joined idle = joined_at (nat_lt (length v.seen) (length w.seen)) refl idle
