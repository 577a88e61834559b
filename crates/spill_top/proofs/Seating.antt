-- How sessions come for the queries of a plan, and how they end: a turn of each loop, and its end.
use Rattle.std.proofs.Common.{◌≡◌, Bool, ◌-◌, ◌<◌, List, [], ◌∷◌, ◌++◌, length, get_or, map, reverse, Option, Some, None, IfSome, refl, sym, ap, ◌∙◌, subst, arith}
use Rattle.std.specs.List.{All}
use Rattle.std.proofs.lemmas.List.Elements.{All-pop}
use Rattle.std.proofs.lemmas.List.{append-nil, append_assoc, get_or-reverse, length-reverse, map-append, reverse-append, reverse-reverse}
use Rattle.pool_model.specs.State.{Opening}
use Rattle.turn_table.specs.Face.{Spot}
use Rattle.pool.specs.declared.item.Item.{Item}
use Rattle.pool.specs.Sitting.{Sitting}
use Rattle.spill_top.specs.Together.{EndAll, EndsOne}

-- a fact of each stays true of those before the last one
pub all_before : {A : Type 0} (P : A → Type 0) (xs ys : List A) (x : A) → xs ≡ ys ++ x ∷ [] → All P xs → All P ys
all_before P xs ys x is all = (All-pop P xs ys (Some x) is all).0

-- and of the last one
pub of_last : {A : Type 0} (P : A → Type 0) (xs ys : List A) (x : A) → xs ≡ ys ++ x ∷ [] → All P xs → P x
of_last P xs ys x is all =
    let both : All P ys × IfSome (Some x) P = All-pop P xs ys (Some x) is all in
    both.1

-- the same of the reversed list
pub all_reversed : {A : Type 0} (P : A → Type 0) (xs ys : List A) → ys ≡ reverse xs → All P xs → All P ys
all_reversed P xs ys is all = λ k d less.
    let many : length ys ≡ length xs = ap length is ∙ length-reverse xs in
    let inside : k < length xs = omega (arith, many, less) in
    subst P (sym (ap (λ zs. get_or zs k d) is ∙ get_or-reverse xs k d inside)) (all (length xs - 1 - k) d (omega (arith, inside)))

-- no query is seated
pub seated_none : {A J : Type 0} (f : A → J) (jobs : List J) (xs ys : List A) → jobs ≡ [] → ys ≡ reverse xs → jobs ++ map f (reverse ys) ≡ map f xs
seated_none f jobs xs ys none is = ap (λ js. js ++ map f (reverse ys)) none ∙ ap (map f) (ap reverse is ∙ reverse-reverse xs)

-- the last answer goes, and its query is seated
pub seated_more : {A J : Type 0} (f : A → J) (jobs later all : List J) (xs ys : List A) (x : A) (y : J)
    → xs ≡ ys ++ x ∷ [] → y ≡ f x → later ≡ jobs ++ y ∷ [] → jobs ++ map f (reverse xs) ≡ all → later ++ map f (reverse ys) ≡ all
seated_more f jobs later all xs ys x y is seat pushed before =
    let last : reverse xs ≡ x ∷ reverse ys = ap reverse is ∙ reverse-append ys (x ∷ []) in
    let rest : y ∷ map f (reverse ys) ≡ map f (reverse xs) = ap (λ z. z ∷ map f (reverse ys)) seat ∙ sym (ap (map f) last) in
    ap (λ js. js ++ map f (reverse ys)) pushed ∙ append_assoc jobs (y ∷ []) (map f (reverse ys)) ∙ ap (λ zs. jobs ++ zs) rest ∙ before

-- no answer is left
pub seated_all : {A J : Type 0} (f : A → J) (jobs all : List J) (xs : List A) → length xs ≡ 0 → jobs ++ map f (reverse xs) ≡ all → jobs ≡ all
seated_all f jobs all [] none is = sym (append-nil jobs) ∙ is
seated_all f jobs all (x ∷ xs) none is = absurd (omega (arith, none))

-- what is seen of the last query
last_seen : {J : Type 0} (see : J → Option Sitting) (jobs later : List J) (job : J) (one : Option Sitting) → jobs ≡ later ++ job ∷ [] → see job ≡ one → map see jobs ≡ map see later ++ one ∷ []
last_seen see jobs later job one is seen = ap (map see) is ∙ map-append see later (job ∷ []) ∙ ap (λ z. map see later ++ z ∷ []) seen

module _ (o : Opening) (told : Bool) where
  -- of all these sessions those behind the ones that are left ended
  abbrev pub AreGone : List (Option Sitting) → List (Option Sitting) → Spot Item → Spot Item → Type 0
  AreGone all left first now = (gone : List (Option Sitting)) × (all ≡ left ++ gone) × EndAll o told gone first now

  -- none has ended yet
  pub gone_yet : (all : List (Option Sitting)) (first : Spot Item) → AreGone all all first first
  gone_yet all first = ([], sym (append-nil all), refl)

  -- one more ended
  one_gone : (all left : List (Option Sitting)) (s : Sitting) (first now next : Spot Item) → AreGone all (left ++ Some s ∷ []) first now → EndsOne o told s now next → AreGone all left first next
  one_gone all left s first now next gone ends = (Some s ∷ gone.0, gone.1 ∙ append_assoc left (Some s ∷ []) gone.0, (now, gone.2, ends))

  -- none was there
  none_gone : (all left : List (Option Sitting)) (first now : Spot Item) → AreGone all (left ++ None ∷ []) first now → AreGone all left first now
  none_gone all left first now gone = (None ∷ gone.0, gone.1 ∙ append_assoc left (None ∷ []) gone.0, gone.2)

  -- the last query goes, whose session ended
  pub gone_one : {J : Type 0} (see : J → Option Sitting) (all : List (Option Sitting)) (jobs later : List J) (job : J) (s : Sitting) (first now next : Spot Item)
      → jobs ≡ later ++ job ∷ [] → see job ≡ Some s → AreGone all (map see jobs) first now → EndsOne o told s now next → AreGone all (map see later) first next
  gone_one see all jobs later job s first now next is seen gone ends =
      one_gone all (map see later) s first now next (subst (λ left. AreGone all left first now) (last_seen see jobs later job (Some s) is seen) gone) ends

  -- the last query goes, which had no session
  pub gone_none : {J : Type 0} (see : J → Option Sitting) (all : List (Option Sitting)) (jobs later : List J) (job : J) (first now : Spot Item)
      → jobs ≡ later ++ job ∷ [] → see job ≡ None → AreGone all (map see jobs) first now → AreGone all (map see later) first now
  gone_none see all jobs later job first now is seen gone =
      none_gone all (map see later) first now (subst (λ left. AreGone all left first now) (last_seen see jobs later job None is seen) gone)
