-- Lines are read as they are written, and nothing else is.
use Rattle.std.proofs.Common.{◌≡◌, ◌<◌, ◌≤◌, ◌-◌, ◌==◌, ℕ, zero, suc, List, [], ◌∷◌, ◌++◌, length, drop, Option, Some, None, Bool, true, false, if◌then◌else◌, ltb, refl, ap, sym, ◌∙◌, subst, arith, eqb-true, append_assoc}
use Rattle.std.proofs.lemmas.Bool.{lt-ltb, ltb-true}
use Rattle.std.proofs.Math.Seq.{drop-append_seam}
use Rattle.std.specs.Fmt.{decimal}
use Rattle.pool_model.specs.declared.bare.Bare.{Bare}
use Rattle.pool_model.specs.declared.skeleton.Skeleton.{Skeleton}
use Rattle.trace_check.specs.declared.name.Name.{Name}
use Rattle.trace_check.specs.Names.{spelled, name_of}
use Rattle.trace_check.specs.Numbers.{numbers_of, IsU32, EventInForm}
use Rattle.trace_check.specs.Events.{event_from}
use Rattle.trace_check.specs.Lines.{spaced, letter_of, line_of, AreU64, InForm}
use Rattle.trace_check.specs.Reading.{◌>>=◌, number_at, numbers_at, with_front, begins_with_digit, name_at, letter_at, narrowed, behind_space, event_at, skeleton_at}
use Rattle.trace_check.proofs.Steps.{numbers_end, numbers_more}
use Rattle.trace_check.proofs.Numerals.{number_again, number_told, IsRead, same_first, same_second}
use Rattle.trace_check.proofs.NameLaws.{name_again, name_told}
use Rattle.trace_check.proofs.EventLaws.{event_again, event_told, IsEvent, at_most_six}

-- what a step read, and what was read behind it
pub record Bound {A B : Type 0} (o : Option A) (f : A → Option B) (y : B) : Type 0 where
  pub value : A
  pub is : o ≡ Some value
  pub then_is : f value ≡ Some y

pub bound : {A B : Type 0} (o : Option A) (f : A → Option B) (y : B) → (o >>= f) ≡ Some y → Bound o f y
bound None f y is = cc
bound (Some x) f y is = record { value = x; is = refl; then_is = is }

-- no digit stands in front of numbers and the end of a line
no_digit : (numbers rest : List ℕ) → begins_with_digit (spaced numbers ++ 10 ∷ rest) ≡ false
no_digit [] rest = refl
no_digit (n ∷ ns) rest = refl

-- one more number in front
spaced_more : (n : ℕ) (ns rest : List ℕ) → spaced (n ∷ ns) ++ 10 ∷ rest ≡ 32 ∷ (decimal n ++ (spaced ns ++ 10 ∷ rest))
spaced_more n ns rest = ap (λ (t : List ℕ). 32 ∷ t) (append_assoc (decimal n) (spaced ns) (10 ∷ rest))

pub numbers_again : (most : ℕ) (ns rest : List ℕ) → AreU64 ns → length ns ≤ most → numbers_at most (spaced ns ++ 10 ∷ rest) ≡ Some (ns, rest)
numbers_again most [] rest wide few = numbers_end most rest
numbers_again zero (n ∷ ns) rest wide few = absurd (omega (arith, few))
numbers_again (suc most) (n ∷ ns) rest wide few =
    let less : suc most - 1 ≡ most = omega arith in
    let fewer : length ns ≤ most = omega (arith, few) in
    ap (λ (t : List ℕ). numbers_at (suc most) t) (spaced_more n ns rest)
    ∙ numbers_more (suc most) (decimal n ++ (spaced ns ++ 10 ∷ rest)) (omega arith)
    ∙ ap (λ (o : Option (ℕ × List ℕ)). o >>= (λ n. with_front (n.0 ∷ []) (numbers_at (suc most - 1) n.1))) (number_again n (spaced ns ++ 10 ∷ rest) wide.0 (no_digit ns rest))
    ∙ ap (λ (k : ℕ). with_front (n ∷ []) (numbers_at k (spaced ns ++ 10 ∷ rest))) less
    ∙ ap (λ (o : Option (List ℕ × List ℕ)). with_front (n ∷ []) o) (numbers_again most ns rest wide.1 fewer)

-- what numbers were read
pub record AreRead (bs ns rest : List ℕ) : Type 0 where
  pub is : bs ≡ spaced ns ++ 10 ∷ rest
  pub wide : AreU64 ns

at_line_end : (b : ℕ) (bs ns rest : List ℕ) → (b == 10) ≡ true → ◌≡◌ {A = Option (List ℕ × List ℕ)} (Some ([], bs)) (Some (ns, rest)) → AreRead (b ∷ bs) ns rest
at_line_end b bs ns rest line is =
    let none : [] ≡ ns = same_first ([], bs) (ns, rest) is in
    let end : bs ≡ rest = same_second ([], bs) (ns, rest) is in
    record {
      is = ap (λ (c : ℕ). c ∷ bs) (eqb-true b 10 line) ∙ ap (λ (t : List ℕ). 10 ∷ t) end ∙ ap (λ (t : List ℕ). spaced t ++ 10 ∷ rest) none;
      wide = subst (λ (t : List ℕ). AreU64 t) none tt;
    }

-- the numbers behind the first
pub record Fronted (n : ℕ) (read : Option (List ℕ × List ℕ)) (ns rest : List ℕ) : Type 0 where
  pub more : List ℕ
  pub is : read ≡ Some (more, rest)
  pub all : ns ≡ n ∷ more

fronted : (n : ℕ) (read : Option (List ℕ × List ℕ)) (ns rest : List ℕ) → with_front (n ∷ []) read ≡ Some (ns, rest) → Fronted n read ns rest
fronted n None ns rest is = cc
fronted n (Some x) ns rest is =
    let all : n ∷ x.0 ≡ ns = same_first (n ∷ x.0, x.1) (ns, rest) is in
    let end : x.1 ≡ rest = same_second (n ∷ x.0, x.1) (ns, rest) is in
    record { more = x.0; is = ap (λ (t : List ℕ). Some (x.0, t)) end; all = sym all }

pub numbers_told : (most : ℕ) (bs ns rest : List ℕ) → numbers_at most bs ≡ Some (ns, rest) → AreRead bs ns rest
unfolding numbers_at
numbers_told zero [] ns rest is = cc
numbers_told zero (b ∷ bs) ns rest is =
    let done : Option (List ℕ × List ℕ) = Some ([], bs) in
    elim (b == 10) as (λ (t : Bool). (b == 10) ≡ t → (if t then done else None) ≡ Some (ns, rest) → AreRead (b ∷ bs) ns rest) [
      | true ↦ λ line read. at_line_end b bs ns rest line read
      | false ↦ λ line read. cc
    ] refl is
numbers_told (suc most) [] ns rest is = cc
numbers_told (suc most) (b ∷ bs) ns rest is =
    let after : Option (List ℕ × List ℕ) = (number_at bs >>= (λ n. with_front (n.0 ∷ []) (numbers_at most n.1))) in
    let done : Option (List ℕ × List ℕ) = Some ([], bs) in
    elim (b == 10) as (λ (t : Bool). (b == 10) ≡ t → (if t then done else (if b == 32 then after else None)) ≡ Some (ns, rest) → AreRead (b ∷ bs) ns rest) [
      | true ↦ λ line read. at_line_end b bs ns rest line read
      | false ↦ λ line read.
          elim (b == 32) as (λ t. (b == 32) ≡ t → (if t then after else None) ≡ Some (ns, rest) → AreRead (b ∷ bs) ns rest) [
            | true ↦ λ space found.
                let first : Bound (number_at bs) (λ n. with_front (n.0 ∷ []) (numbers_at most n.1)) (ns, rest) = bound (number_at bs) (λ n. with_front (n.0 ∷ []) (numbers_at most n.1)) (ns, rest) found in
                let n : ℕ = first.value.0 in
                let f : Fronted n (numbers_at most first.value.1) ns rest = fronted n (numbers_at most first.value.1) ns rest first.then_is in
                let more : AreRead first.value.1 f.more rest = numbers_told most first.value.1 f.more rest f.is in
                let read_one : IsRead bs n first.value.1 = number_told bs n first.value.1 first.is in
                record {
                  is = ap (λ (c : ℕ). c ∷ bs) (eqb-true b 32 space) ∙ ap (λ (t : List ℕ). 32 ∷ t) (read_one.is ∙ ap (λ (t : List ℕ). decimal n ++ t) more.is)
                      ∙ sym (spaced_more n f.more rest) ∙ ap (λ (t : List ℕ). spaced t ++ 10 ∷ rest) (sym f.all);
                  wide = subst (λ (t : List ℕ). AreU64 t) (sym f.all) (read_one.small, more.wide);
                }
            | false ↦ λ space found. cc
          ] refl read
    ] refl is

-- the event of a line
pub event_of_line : (e : Bare) (rest : List ℕ) → EventInForm e → AreU64 (numbers_of e) → event_at (spelled (name_of e) ++ (spaced (numbers_of e) ++ 10 ∷ rest)) ≡ Some (e, rest)
unfolding event_at
event_of_line e rest narrow wide =
    let text : List ℕ = spelled (name_of e) ++ (spaced (numbers_of e) ++ 10 ∷ rest) in
    ap (λ (o : Option Name). o >>= (λ name. numbers_at 6 (drop (length (spelled name)) text) >>= (λ numbers. event_from name numbers.0 >>= (λ event. Some (event, numbers.1))))) (name_again (name_of e) (numbers_of e) rest)
    ∙ ap (λ (t : List ℕ). numbers_at 6 t >>= (λ numbers. event_from (name_of e) numbers.0 >>= (λ event. Some (event, numbers.1)))) (drop-append_seam (spelled (name_of e)) (spaced (numbers_of e) ++ 10 ∷ rest))
    ∙ ap (λ (o : Option (List ℕ × List ℕ)). o >>= (λ numbers. event_from (name_of e) numbers.0 >>= (λ event. Some (event, numbers.1)))) (numbers_again 6 (numbers_of e) rest wide (at_most_six e))
    ∙ ap (λ (o : Option Bare). o >>= (λ event. Some (event, rest))) (event_again e narrow)

-- what event was read
pub record IsEventLine (bs : List ℕ) (e : Bare) (rest : List ℕ) : Type 0 where
  pub is : bs ≡ spelled (name_of e) ++ (spaced (numbers_of e) ++ 10 ∷ rest)
  pub narrow : EventInForm e
  pub wide : AreU64 (numbers_of e)

pub event_line_told : (bs : List ℕ) (e : Bare) (rest : List ℕ) → event_at bs ≡ Some (e, rest) → IsEventLine bs e rest
unfolding event_at
event_line_told bs e rest is =
    let n : Bound (name_at bs) (λ name. numbers_at 6 (drop (length (spelled name)) bs) >>= (λ numbers. event_from name numbers.0 >>= (λ event. Some (event, numbers.1)))) (e, rest) =
    bound (name_at bs) (λ name. numbers_at 6 (drop (length (spelled name)) bs) >>= (λ numbers. event_from name numbers.0 >>= (λ event. Some (event, numbers.1)))) (e, rest) is in
    let name : Name = n.value in
    let m : Bound (numbers_at 6 (drop (length (spelled name)) bs)) (λ numbers. event_from name numbers.0 >>= (λ event. Some (event, numbers.1))) (e, rest) =
    bound (numbers_at 6 (drop (length (spelled name)) bs)) (λ numbers. event_from name numbers.0 >>= (λ event. Some (event, numbers.1))) (e, rest) n.then_is in
    let v : Bound (event_from name m.value.0) (λ event. Some (event, m.value.1)) (e, rest) = bound (event_from name m.value.0) (λ event. Some (event, m.value.1)) (e, rest) m.then_is in
    let same : v.value ≡ e = same_first (v.value, m.value.1) (e, rest) v.then_is in
    let end : m.value.1 ≡ rest = same_second (v.value, m.value.1) (e, rest) v.then_is in
    let made : IsEvent name m.value.0 e = event_told name m.value.0 e (v.is ∙ ap (λ (x : Bare). Some x) same) in
    let numbers : AreRead (drop (length (spelled name)) bs) m.value.0 m.value.1 = numbers_told 6 (drop (length (spelled name)) bs) m.value.0 m.value.1 m.is in
    record {
      is = name_told bs name n.is ∙ ap (λ (t : List ℕ). spelled name ++ t) (numbers.is ∙ ap (λ (t : List ℕ). spaced m.value.0 ++ 10 ∷ t) end ∙ ap (λ (t : List ℕ). spaced t ++ 10 ∷ rest) (sym made.numbered))
          ∙ ap (λ (k : Name). spelled k ++ (spaced (numbers_of e) ++ 10 ∷ rest)) (sym made.named);
      narrow = made.narrow;
      wide = subst (λ (t : List ℕ). AreU64 t) (sym made.numbered) numbers.wide;
    }

-- a line behind its mark
abbrev pub behind_letter : Skeleton → List ℕ → List ℕ
behind_letter k rest = decimal k.maker ++ (32 ∷ (spelled (name_of k.event) ++ (spaced (numbers_of k.event) ++ 10 ∷ rest)))

line_parts : (k : Skeleton) (rest : List ℕ) → line_of k ++ rest ≡ letter_of k.writer ++ behind_letter k rest
unfolding line_of
line_parts k rest =
    let numbers : List ℕ = spaced (numbers_of k.event) in
    let name : List ℕ = spelled (name_of k.event) in
    append_assoc (letter_of k.writer) (decimal k.maker ++ (32 ∷ (name ++ (numbers ++ 10 ∷ [])))) rest
    ∙ ap (λ (t : List ℕ). letter_of k.writer ++ t) (append_assoc (decimal k.maker) (32 ∷ (name ++ (numbers ++ 10 ∷ []))) rest
    ∙ ap (λ (t : List ℕ). decimal k.maker ++ (32 ∷ t)) (append_assoc name (numbers ++ 10 ∷ []) rest ∙ ap (λ (t : List ℕ). name ++ t) (append_assoc numbers (10 ∷ []) rest)))

read_behind : (k : Skeleton) (rest : List ℕ) (b : ℕ) → letter_at b ≡ Some k.writer → InForm k → skeleton_at (b ∷ behind_letter k rest) ≡ Some (k, rest)
unfolding skeleton_at
read_behind k rest b mark form =
    let tail : List ℕ = spelled (name_of k.event) ++ (spaced (numbers_of k.event) ++ 10 ∷ rest) in
    let wide : k.maker < 18446744073709551616 = omega (arith, form.maker) in
    let narrow : narrowed k.maker ≡ Some k.maker = rw (lt-ltb k.maker 4294967296 form.maker) refl in
    ap (λ (o : Option Bool). o >>= (λ writer. number_at (behind_letter k rest) >>= (λ maker. narrowed maker.0 >>= (λ number. behind_space maker.1 >>= (λ more. event_at more >>= (λ event. Some (record { writer = writer; maker = number; event = event.0 }, event.1))))))) mark
    ∙ ap (λ (o : Option (ℕ × List ℕ)). o >>= (λ maker. narrowed maker.0 >>= (λ number. behind_space maker.1 >>= (λ more. event_at more >>= (λ event. Some (record { writer = k.writer; maker = number; event = event.0 }, event.1)))))) (number_again k.maker (32 ∷ tail) wide refl)
    ∙ ap (λ (o : Option ℕ). o >>= (λ number. event_at tail >>= (λ event. Some (record { writer = k.writer; maker = number; event = event.0 }, event.1)))) narrow
    ∙ ap (λ (o : Option (Bare × List ℕ)). o >>= (λ event. Some (record { writer = k.writer; maker = k.maker; event = event.0 }, event.1))) (event_of_line k.event rest form.narrow form.wide)

line_from : (writer : Bool) (k : Skeleton) (rest : List ℕ) → k.writer ≡ writer → InForm k → skeleton_at (letter_of writer ++ behind_letter k rest) ≡ Some (k, rest)
line_from true k rest is form = read_behind k rest 119 (ap (λ (w : Bool). Some w) (sym is)) form
line_from false k rest is form = read_behind k rest 115 (ap (λ (w : Bool). Some w) (sym is)) form

-- a line that was written is read, whatever follows it
pub line_again : (k : Skeleton) (rest : List ℕ) → InForm k → skeleton_at (line_of k ++ rest) ≡ Some (k, rest)
line_again k rest form = ap (λ (t : List ℕ). skeleton_at t) (line_parts k rest) ∙ line_from k.writer k rest refl form

-- what line was read
pub record IsLine (bs : List ℕ) (k : Skeleton) (rest : List ℕ) : Type 0 where
  pub is : bs ≡ line_of k ++ rest
  pub form : InForm k

letter_told : (b : ℕ) (writer : Bool) → letter_at b ≡ Some writer → b ∷ [] ≡ letter_of writer
letter_told b writer is = elim (b == 119) as (λ t. (b == 119) ≡ t → (if t then Some true else (if b == 115 then Some false else None)) ≡ Some writer → b ∷ [] ≡ letter_of writer) [
  | true ↦ λ here read. let w : true ≡ writer = cc in ap (λ (c : ℕ). c ∷ []) (eqb-true b 119 here) ∙ ap letter_of w
  | false ↦ λ other read. elim (b == 115) as (λ t. (b == 115) ≡ t → (if t then Some false else None) ≡ Some writer → b ∷ [] ≡ letter_of writer) [
    | true ↦ λ here more. let w : false ≡ writer = cc in ap (λ (c : ℕ). c ∷ []) (eqb-true b 115 here) ∙ ap letter_of w
    | false ↦ λ none more. cc
  ] refl read
] refl is

space_told : (bs rest : List ℕ) → behind_space bs ≡ Some rest → bs ≡ 32 ∷ rest
space_told [] rest is = cc
space_told (b ∷ bs) rest is = elim (b == 32) as (λ t. (b == 32) ≡ t → (if t then Some bs else None) ≡ Some rest → b ∷ bs ≡ 32 ∷ rest) [
  | true ↦ λ here read. let same : bs ≡ rest = cc in ap (λ (c : ℕ). c ∷ bs) (eqb-true b 32 here) ∙ ap (λ (t : List ℕ). 32 ∷ t) same
  | false ↦ λ other read. cc
] refl is

pub record IsSmall (n m : ℕ) : Type 0 where
  pub is : n ≡ m
  pub small : IsU32 n

narrowed_told : (n m : ℕ) → narrowed n ≡ Some m → IsSmall n m
narrowed_told n m is = elim (ltb n 4294967296) as (λ t. ltb n 4294967296 ≡ t → (if t then Some n else None) ≡ Some m → IsSmall n m) [
  | true ↦ λ small read. let same : n ≡ m = cc in record { is = same; small = ltb-true n 4294967296 small }
  | false ↦ λ large read. cc
] refl is

pub line_told : (bs : List ℕ) (k : Skeleton) (rest : List ℕ) → skeleton_at bs ≡ Some (k, rest) → IsLine bs k rest
unfolding skeleton_at
line_told [] k rest is = cc
line_told (b ∷ bs) k rest is =
    let f4 : Bool → ℕ → List ℕ → Option (Skeleton × List ℕ) = λ writer number more. event_at more >>= (λ event. Some (record { writer = writer; maker = number; event = event.0 }, event.1)) in
    let f3 : Bool → ℕ × List ℕ → ℕ → Option (Skeleton × List ℕ) = λ writer maker number. behind_space maker.1 >>= f4 writer number in
    let f2 : Bool → ℕ × List ℕ → Option (Skeleton × List ℕ) = λ writer maker. narrowed maker.0 >>= f3 writer maker in
    let f1 : Bool → Option (Skeleton × List ℕ) = λ writer. number_at bs >>= f2 writer in
    let w : Bound (letter_at b) f1 (k, rest) = bound (letter_at b) f1 (k, rest) is in
    let m : Bound (number_at bs) (f2 w.value) (k, rest) = bound (number_at bs) (f2 w.value) (k, rest) w.then_is in
    let n : Bound (narrowed m.value.0) (f3 w.value m.value) (k, rest) = bound (narrowed m.value.0) (f3 w.value m.value) (k, rest) m.then_is in
    let s : Bound (behind_space m.value.1) (f4 w.value n.value) (k, rest) = bound (behind_space m.value.1) (f4 w.value n.value) (k, rest) n.then_is in
    let e : Bound (event_at s.value) (λ event. Some (record { writer = w.value; maker = n.value; event = event.0 }, event.1)) (k, rest) =
    bound (event_at s.value) (λ event. Some (record { writer = w.value; maker = n.value; event = event.0 }, event.1)) (k, rest) s.then_is in
    let j : Skeleton = record { writer = w.value; maker = n.value; event = e.value.0 } in
    let same : j ≡ k = same_first (j, e.value.1) (k, rest) e.then_is in
    let end : e.value.1 ≡ rest = same_second (j, e.value.1) (k, rest) e.then_is in
    let small : IsSmall m.value.0 n.value = narrowed_told m.value.0 n.value n.is in
    let maker : IsRead bs m.value.0 m.value.1 = number_told bs m.value.0 m.value.1 m.is in
    let line : IsEventLine s.value e.value.0 e.value.1 = event_line_told s.value e.value.0 e.value.1 e.is in
    let text : bs ≡ behind_letter j rest =
    maker.is ∙ ap (λ (t : List ℕ). decimal m.value.0 ++ t) (space_told m.value.1 s.value s.is ∙ ap (λ (t : List ℕ). 32 ∷ t) (line.is ∙ ap (λ (t : List ℕ). spelled (name_of e.value.0) ++ (spaced (numbers_of e.value.0) ++ 10 ∷ t)) end))
    ∙ ap (λ (i : ℕ). decimal i ++ (32 ∷ (spelled (name_of e.value.0) ++ (spaced (numbers_of e.value.0) ++ 10 ∷ rest)))) small.is in
    let whole : b ∷ bs ≡ line_of j ++ rest =
    ap (λ (t : List ℕ). t ++ bs) (letter_told b w.value w.is) ∙ ap (λ (t : List ℕ). letter_of w.value ++ t) text ∙ sym (line_parts j rest) in
    record {
      is = whole ∙ ap (λ (x : Skeleton). line_of x ++ rest) same;
      form = subst (λ (x : Skeleton). InForm x) same (record { maker = subst (λ (i : ℕ). IsU32 i) small.is small.small; wide = line.wide; narrow = line.narrow });
    }
