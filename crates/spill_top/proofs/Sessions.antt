-- What the queries of a plan show over their sessions.
use Rattle.std.proofs.Common.{◌≡◌, ◌∙◌, ◌*◌, ◌≤◌, ◌⊎◌, inl, inr, ℕ, zero, suc, Bool, true, false, List, [], ◌∷◌, Option, Some, None, IfSome, IsSome, All, drop, length, map, refl, sym, ap, subst, arith}
use Rattle.std.specs.Prelude.{⊤}
use Rattle.std.specs.List.{slice_get}
use Rattle.std.specs.Option.{option_map}
use Rattle.std.proofs.lemmas.Bool.{false≢true}
use Rattle.std.proofs.lemmas.List.{append-nil}
use Rattle.std.proofs.lemmas.List.Elements.{All-cons, All-nil}
use Rattle.std.proofs.lemmas.Option.{none-some, same_Some}
use Rattle.outside.specs.Told.{GivesBytes}
use Rattle.pool_model.specs.State.{Opening}
use Rattle.pool_model.specs.declared.entry.Entry.{Entry}
use Rattle.pool_model.specs.LookingBack.{names_in}
use Rattle.store_api.specs.Holdings.{Holdings}
use Rattle.store_api.specs.Signs.{Entered, Signs}
use Rattle.pool.specs.Seating.{HasBegun}
use Rattle.pool.specs.Sitting.{Sitting, held_by, signs_by}
use Rattle.query_plan.specs.Rules.{KeepsQuery}
use Rattle.query_plan.specs.Sizes.{least_of, page_len}
use Rattle.query_plan.specs.declared.plan.Query.{Query}
use Rattle.query_plan.specs.declared.plan.Side.TheVariants.{Left, Right}
use Rattle.query_run.specs.Both.{Told, both_told, told_in}
use Rattle.query_run.specs.Stopped.{HasRoomFor, MakesFew}
use Rattle.query_run.specs.Through.{rows_through}
use Rattle.query_run.specs.Trail.{KeptRows}
use Rattle.spill_top.specs.declared.ending.Ending.{Ending}
use Rattle.spill_top.specs.declared.job.Job.{Job}
use Rattle.spill_top.specs.Endings.{is_answer}
use Rattle.spill_top.specs.Jobs.{InputStands, IsWork, Work, work_of, met_so_far}
use Rattle.spill_top.specs.Running.{Seen}
use Rattle.spill_top.specs.Sides.{bytes_on, told_of}
use Rattle.spill_top.specs.Steps.{IsOpen, has_answer}
use Rattle.spill_top.specs.Together.{AreAnswered, CanRun, IsAnswered, RanOn, Showed, Stay, StopsAs}
use Rattle.spill_top.proofs.Answered.{GivesTold, gives_both, right_gives, told_so}
use Rattle.spill_top.proofs.Asks.{room_for}
use Rattle.spill_top.proofs.Fitting.{goes_unrefused}
use Rattle.spill_top.proofs.OneSession.{same_number}
use Rattle.spill_top.proofs.Sides.{shown}

-- no page was made
none-entered : (most : ℕ) (trail : Option (List Entry)) → Entered (λ more. length (names_in more) ≤ most) trail trail
none-entered most None = refl
none-entered most (Some h) = ([], ap (λ (es : List Entry). Some es) (sym (append-nil h)), omega arith)

-- a query is over before it goes on, or goes on
either : (ended : Option Ending) → (ended ≡ None) ⊎ IsSome ended
either None = inl refl
either (Some ending) = inr refl

module _ {S K St : Type 0} (remaining : S → Option (List ℕ)) (reads : S → ℕ) (contents : K → Option (List ℕ)) (writes : K → ℕ) (o : Opening) (told : Bool) (see : St → Sitting) where
  abbrev pub work : Job S K St → Work
  work job = work_of remaining reads contents writes job

  abbrev pub holds : St → Holdings
  holds s = held_by o told (see s)

  abbrev pub signs : St → Signs
  signs s = signs_by o (see s)

  -- its session is as it came
  abbrev pub HasCome : Query → Job S K St → Type 0
  HasCome query job = (s : St) → job.session ≡ Some s → HasBegun o.block_len told query.limit query.quota (least_of query o.block_len) (holds s)

  -- ---- a query that goes on can run

  roomy : (query : Query) (session : Option St) → IsSome session → ((s : St) → session ≡ Some s → HasBegun o.block_len told query.limit query.quota (least_of query o.block_len) (holds s))
      → (s : St) × (session ≡ Some s) × HasRoomFor query (holds s)
  roomy query None some come = absurd (false≢true some)
  roomy query (Some s) some come = (s, refl, room_for query o.block_len o.block_len told query.limit query.quota (least_of query o.block_len) (holds s) (come s refl) refl refl)

  pub can_run : (start at : Seen) (all : List Query) (query : Query) (job : Job S K St) → KeepsQuery query → IsOpen (work job) → IsWork start at o.block_len all query (work job) → (job.refused ≡ None → IsSome job.session)
      → HasCome query job → CanRun remaining reads contents writes holds signs query job
  can_run start at all query job rules opens is seated come = record {
    rules = rules;
    is_open = opens;
    sides = is.sides;
    store = λ on. roomy query job.session (seated (goes_unrefused query (met_so_far start at o.block_len all query (work job)) job.ended on is.ending)) come;
  }

  -- ---- its session before and afterwards

  abbrev pub Alike : Option St → Option St → Type 0
  Alike None None = ⊤
  Alike (Some s) (Some t) = ((see t).number ≡ (see s).number) × ((holds t).live_clients ≡ 0)
  Alike None (Some t) = ⊥
  Alike (Some s) None = ⊥

  same-session : (session : Option St) → ((s : St) → session ≡ Some s → (holds s).live_clients ≡ 0) → Alike session session
  same-session None idle = tt
  same-session (Some s) idle = (refl, idle s refl)

  ran-alike : (query : Query) (a b : Job S K St) → RanOn remaining reads contents writes holds signs query a b → Alike a.session b.session
  ran-alike query a b ran =
      subst (λ (x : Option St). Alike x b.session) (sym ran.before)
      (subst (λ (y : Option St). Alike (Some ran.session) y) (sym ran.after) (same_number o told (see ran.session) (see ran.later) ran.over.left, ran.over.left.live_clients))

  pub alike : (query : Query) (a b : Job S K St) → IsAnswered remaining reads contents writes holds signs query a b → HasCome query a → Alike a.session b.session
  alike query a b is come = elim (either a.ended) [
    | inl on ↦ ran-alike query a b (is.ran on)
    | inr over ↦ subst (λ (j : Job S K St). Alike a.session j.session) (sym (is.stays over)) (same-session a.session (λ s at. (come s at).live_clients))
  ]

  abbrev pub stay_from : Option St → Option St → Option Stay
  stay_from None t = None
  stay_from (Some s) None = None
  stay_from (Some s) (Some t) = Some (record { first = see s; last = see t })

  abbrev pub stays_of : List (Job S K St) → List (Job S K St) → List (Option Stay)
  stays_of [] new = []
  stays_of (a ∷ old) [] = []
  stays_of (a ∷ old) (b ∷ new) = stay_from a.session b.session ∷ stays_of old new

  abbrev pub AllAlike : List (Job S K St) → List (Job S K St) → Type 0
  AllAlike [] [] = ⊤
  AllAlike [] (b ∷ new) = ⊥
  AllAlike (a ∷ old) [] = ⊥
  AllAlike (a ∷ old) (b ∷ new) = Alike a.session b.session × AllAlike old new

  pub all_alike : (queries : List Query) (old new : List (Job S K St)) → length queries ≡ length old → length new ≡ length old → AreAnswered remaining reads contents writes holds signs queries old new
      → ((place : ℕ) (query : Query) (job : Job S K St) → slice_get queries place ≡ Some query → slice_get old place ≡ Some job → HasCome query job) → AllAlike old new
  all_alike [] [] [] many same are come = tt
  all_alike [] [] (b ∷ new) many same are come = absurd (omega (arith, same))
  all_alike [] (a ∷ old) new many same are come = absurd (omega (arith, many))
  all_alike (query ∷ queries) [] new many same are come = absurd (omega (arith, many))
  all_alike (query ∷ queries) (a ∷ old) [] many same are come = absurd (omega (arith, same))
  all_alike (query ∷ queries) (a ∷ old) (b ∷ new) many same are come = (
    alike query a b (are 0 query a b refl refl refl) (come 0 query a refl refl),
    all_alike queries old new (omega (arith, many)) (omega (arith, same)) (λ place q x y at_q at_x at_y. are (suc place) q x y at_q at_x at_y) (λ place q x at_q at_x. come (suc place) q x at_q at_x),
  )

  first-from : (s t : Option St) → Alike s t → option_map (λ (stay : Stay). stay.first) (stay_from s t) ≡ option_map see s
  first-from None None is = refl
  first-from None (Some t) is = absurd is
  first-from (Some s) None is = absurd is
  first-from (Some s) (Some t) is = refl

  last-from : (s t : Option St) → Alike s t → option_map (λ (stay : Stay). stay.last) (stay_from s t) ≡ option_map see t
  last-from None None is = refl
  last-from None (Some t) is = absurd is
  last-from (Some s) None is = absurd is
  last-from (Some s) (Some t) is = refl

  pub firsts_are : (old new : List (Job S K St)) → AllAlike old new → map (option_map (λ (stay : Stay). stay.first)) (stays_of old new) ≡ map (λ (job : Job S K St). option_map see job.session) old
  firsts_are [] [] are = refl
  firsts_are [] (b ∷ new) are = absurd are
  firsts_are (a ∷ old) [] are = absurd are
  firsts_are (a ∷ old) (b ∷ new) are =
      ap (λ (x : Option Sitting). x ∷ map (option_map (λ (stay : Stay). stay.first)) (stays_of old new)) (first-from a.session b.session are.0)
      ∙ ap (λ (xs : List (Option Sitting)). option_map see a.session ∷ xs) (firsts_are old new are.1)

  pub lasts_are : (old new : List (Job S K St)) → AllAlike old new → map (option_map (λ (stay : Stay). stay.last)) (stays_of old new) ≡ map (λ (job : Job S K St). option_map see job.session) new
  lasts_are [] [] are = refl
  lasts_are [] (b ∷ new) are = absurd are
  lasts_are (a ∷ old) [] are = absurd are
  lasts_are (a ∷ old) (b ∷ new) are =
      ap (λ (x : Option Sitting). x ∷ map (option_map (λ (stay : Stay). stay.last)) (stays_of old new)) (last-from a.session b.session are.0)
      ∙ ap (λ (xs : List (Option Sitting)). option_map see b.session ∷ xs) (lasts_are old new are.1)

  pub stays_len : (old new : List (Job S K St)) → AllAlike old new → length (stays_of old new) ≡ length old
  stays_len [] [] are = refl
  stays_len [] (b ∷ new) are = absurd are
  stays_len (a ∷ old) [] are = absurd are
  stays_len (a ∷ old) (b ∷ new) are = ap suc (stays_len old new are.1)

  -- no session has a client then
  idle-one : (x y : Option St) → Alike x y → IfSome y (λ t. (holds t).live_clients ≡ 0)
  idle-one None None like = tt
  idle-one None (Some t) like = absurd like
  idle-one (Some s) None like = absurd like
  idle-one (Some s) (Some t) like = like.1

  idle-by : (old new last : List (Job S K St)) → AllAlike old new → map (λ (job : Job S K St). job.session) last ≡ map (λ (job : Job S K St). job.session) new → All (λ (job : Job S K St). IfSome job.session (λ s. (holds s).live_clients ≡ 0)) last
  idle-by [] [] [] are same = All-nil (λ (job : Job S K St). IfSome job.session (λ s. (holds s).live_clients ≡ 0))
  idle-by [] [] (z ∷ last) are same = absurd (let long : suc (length (map (λ (job : Job S K St). job.session) last)) ≡ 0 = ap length same in omega (arith, long))
  idle-by [] (b ∷ new) last are same = absurd are
  idle-by (a ∷ old) [] last are same = absurd are
  idle-by (a ∷ old) (b ∷ new) [] are same = absurd (let long : 0 ≡ suc (length (map (λ (job : Job S K St). job.session) new)) = ap length same in omega (arith, long))
  idle-by (a ∷ old) (b ∷ new) (z ∷ last) are same =
      let one : z.session ≡ b.session = same_Some z.session b.session (ap (λ (xs : List (Option St)). slice_get xs 0) same) in
      All-cons (λ (job : Job S K St). IfSome job.session (λ s. (holds s).live_clients ≡ 0)) z last
      (subst (λ (x : Option St). IfSome x (λ s. (holds s).live_clients ≡ 0)) (sym one) (idle-one a.session b.session are.0))
      (idle-by old new last are.1 (ap (λ (xs : List (Option St)). drop 1 xs) same))

  pub all_idle : (old new last : List (Job S K St)) → AllAlike old new → map (λ (job : Job S K St). job.session) last ≡ map (λ (job : Job S K St). job.session) new → All (λ (job : Job S K St). IfSome job.session (λ s. (holds s).live_clients ≡ 0)) last
  all_idle old new last are same = idle-by old new last are same

  -- a stay at a place is that of the sessions there
  pub record StaysThere (old new : List (Job S K St)) (place : ℕ) (stay : Stay) : Type 0 where
    pub a : Job S K St
    pub b : Job S K St
    pub s : St
    pub t : St
    pub at_old : slice_get old place ≡ Some a
    pub at_new : slice_get new place ≡ Some b
    pub before : a.session ≡ Some s
    pub after : b.session ≡ Some t
    pub is : stay ≡ record { first = see s; last = see t }

  one-stay : (a b : Job S K St) (old new : List (Job S K St)) (stay : Stay) (x y : Option St) → a.session ≡ x → b.session ≡ y → stay_from x y ≡ Some stay → StaysThere (a ∷ old) (b ∷ new) 0 stay
  one-stay a b old new stay None y before after is = absurd (none-some stay is)
  one-stay a b old new stay (Some s) None before after is = absurd (none-some stay is)
  one-stay a b old new stay (Some s) (Some t) before after is = record { a = a; b = b; s = s; t = t; at_old = refl; at_new = refl; before = before; after = after; is = sym (same_Some _ stay is) }

  pub stay_at : (old new : List (Job S K St)) (place : ℕ) (stay : Stay) → slice_get (stays_of old new) place ≡ Some (Some stay) → StaysThere old new place stay
  stay_at [] new place stay at = absurd (none-some (Some stay) at)
  stay_at (a ∷ old) [] place stay at = absurd (none-some (Some stay) at)
  stay_at (a ∷ old) (b ∷ new) zero stay at = one-stay a b old new stay a.session b.session refl refl (same_Some (stay_from a.session b.session) (Some stay) at)
  stay_at (a ∷ old) (b ∷ new) (suc place) stay at =
      let it = stay_at old new place stay at in
      record { a = it.a; b = it.b; s = it.s; t = it.t; at_old = it.at_old; at_new = it.at_new; before = it.before; after = it.after; is = it.is }

  -- a session keeps its number
  pub numbers_kept : (old new : List (Job S K St)) → AllAlike old new → (place : ℕ) (stay : Stay) → slice_get (stays_of old new) place ≡ Some (Some stay) → stay.last.number ≡ stay.first.number
  numbers_kept [] new are place stay at = absurd (none-some (Some stay) at)
  numbers_kept (a ∷ old) [] are place stay at = absurd (none-some (Some stay) at)
  numbers_kept (a ∷ old) (b ∷ new) are zero stay at = go a.session b.session are.0 (same_Some (stay_from a.session b.session) (Some stay) at)
    where
      go : (x y : Option St) → Alike x y → stay_from x y ≡ Some stay → stay.last.number ≡ stay.first.number
      go None y like is = absurd (none-some stay is)
      go (Some s) None like is = absurd (none-some stay is)
      go (Some s) (Some t) like is = subst (λ (z : Stay). z.last.number ≡ z.first.number) (same_Some _ stay is) like.0
  numbers_kept (a ∷ old) (b ∷ new) are (suc place) stay at = numbers_kept old new are.1 place stay at

  -- and the sessions at a place make a stay
  pub stay_there : (old new : List (Job S K St)) (place : ℕ) (a b : Job S K St) (s t : St) → slice_get old place ≡ Some a → slice_get new place ≡ Some b → a.session ≡ Some s → b.session ≡ Some t
      → slice_get (stays_of old new) place ≡ Some (Some (record { first = see s; last = see t }))
  stay_there [] new place a b s t at_old at_new before after = absurd (none-some a at_old)
  stay_there (x ∷ old) [] place a b s t at_old at_new before after = absurd (none-some b at_new)
  stay_there (x ∷ old) (y ∷ new) zero a b s t at_old at_new before after =
      let one : x.session ≡ Some s = ap (λ (j : Job S K St). j.session) (same_Some x a at_old) ∙ before in
      let two : y.session ≡ Some t = ap (λ (j : Job S K St). j.session) (same_Some y b at_new) ∙ after in
      ap (λ (z : Option St). Some (stay_from z y.session)) one ∙ ap (λ (z : Option St). Some (stay_from (Some s) z)) two
  stay_there (x ∷ old) (y ∷ new) (suc place) a b s t at_old at_new before after = stay_there old new place a b s t at_old at_new before after

  -- ---- what it showed

  left-gives : (bytes : Option (List ℕ)) (left : Option S) → IsSome (shown remaining reads left) → InputStands bytes (shown remaining reads left) None → GivesBytes bytes (told_in remaining left)
  left-gives bytes None some stands = absurd (false≢true some)
  left-gives bytes (Some s) some stands = stands.0

  module _ (start at : Seen) (all : List Query) (query : Query) (a b : Job S K St) (s t : St) (before : a.session ≡ Some s) (after : b.session ≡ Some t) (is : IsAnswered remaining reads contents writes holds signs query a b)
      (stands : IsWork start at o.block_len all query (work a)) where
    -- what it was given is what stands under its files
    module _ (opens : IsOpen (work a)) (on : a.ended ≡ None) where
      gives-left : GivesBytes (bytes_on query start.files Left) (told_in remaining a.left)
      gives-left = left-gives (bytes_on query start.files Left) a.left ((opens on).0) (subst (λ (e : Option Ending). InputStands (bytes_on query start.files Left) (shown remaining reads a.left) e) on (stands.inputs Left))

      gives-right : GivesBytes (bytes_on query start.files Right) (told_in remaining a.right)
      gives-right =
          right_gives remaining reads query.right start.files a.right (stands.sides.both on ((opens on).0)) (subst (λ (e : Option Ending). InputStands (bytes_on query start.files Right) (shown remaining reads a.right) e) on (stands.inputs Right))

      gives : GivesTold (told_of query start.files) (both_told (told_in remaining a.left) (told_in remaining a.right))
      gives = gives_both (bytes_on query start.files Left) (bytes_on query start.files Right) (told_in remaining a.left) (told_in remaining a.right) gives-left gives-right

    ran-at : (ran : RanOn remaining reads contents writes holds signs query a b) → ran.session ≡ s
    ran-at ran = same_Some ran.session s (sym ran.before ∙ before)

    ran-to : (ran : RanOn remaining reads contents writes holds signs query a b) → ran.later ≡ t
    ran-to ran = same_Some ran.later t (sym ran.after ∙ after)

    stayed : IsSome a.ended → t ≡ s
    stayed over = same_Some t s (sym after ∙ ap (λ (j : Job S K St). j.session) (is.stays over) ∙ before)

    few : IsOpen (work a) → (holds s).told ≡ true → IfSome (told_of query start.files) (λ both. MakesFew (16 * rows_through query both) (signs s) (signs t))
    few opens tells = elim (either a.ended) [
      | inl on ↦
          let ran = is.ran on in
          told_so (told_of query start.files) (both_told (told_in remaining a.left) (told_in remaining a.right)) (gives opens on) (λ both. MakesFew (16 * rows_through query both) (signs s) (signs t))
          (subst (λ (y : St). IfSome (both_told (told_in remaining a.left) (told_in remaining a.right)) (λ both. MakesFew (16 * rows_through query both) (signs s) (signs y))) (ran-to ran)
          (subst (λ (x : St). IfSome (both_told (told_in remaining a.left) (told_in remaining a.right)) (λ both. MakesFew (16 * rows_through query both) (signs x) (signs ran.later))) (ran-at ran)
          (ran.over.made (ap (λ (x : St). (holds x).told) (ran-at ran) ∙ tells))))
      | inr over ↦
          subst (λ (y : St). IfSome (told_of query start.files) (λ both. MakesFew (16 * rows_through query both) (signs s) (signs y))) (sym (stayed over))
          (each (told_of query start.files))
    ]
      where
        each : (o : Option Told) → IfSome o (λ both. MakesFew (16 * rows_through query both) (signs s) (signs s))
        each None = tt
        each (Some both) = none-entered (16 * rows_through query both) (signs s).trail

    -- an answer came of a query that ran
    ran-for : has_answer a.ended ≡ false → has_answer b.ended ≡ true → a.ended ≡ None
    ran-for none some = elim (either a.ended) [
      | inl on ↦ on
      | inr over ↦ absurd (false≢true (sym none ∙ ap (λ (j : Job S K St). has_answer j.ended) (sym (is.stays over)) ∙ some))
    ]

    pub showed : IsOpen (work a) → HasBegun o.block_len told query.limit query.quota (least_of query o.block_len) (holds s) → has_answer a.ended ≡ false → (ending : Ending) → (is_answer ending ≡ true → has_answer b.ended ≡ true)
        → Showed o told start.files query ending (record { first = see s; last = see t })
    showed opens begun none ending answers = record {
      few = λ tells. few opens (begun.told ∙ tells);
      kept = λ some.
          let on = ran-for none (answers some) in
          let ran = is.ran on in (
            told_in remaining a.left,
            told_in remaining a.right,
            gives-left opens on,
            gives-right opens on,
            subst (λ (n : ℕ). KeptRows query (page_len query n) (told_in remaining a.left) (told_in remaining a.right) (signs s).trail (signs t).trail) begun.block_len
                (subst (λ (y : St). KeptRows query (page_len query (holds s).block_len) (told_in remaining a.left) (told_in remaining a.right) (signs s).trail (signs y).trail) (ran-to ran)
                (subst (λ (x : St). KeptRows query (page_len query (holds x).block_len) (told_in remaining a.left) (told_in remaining a.right) (signs x).trail (signs ran.later).trail) (ran-at ran) (ran.kept (answers some)))),
          );
    }

    -- what stands of it then, once it is known what stops it
    pub stands_then : StopsAs start at o.block_len all query (holds s) (signs s) (signs t) → IsWork start at o.block_len all query (work b)
    stands_then stops = elim (either a.ended) [
      | inl on ↦
          let ran = is.ran on in
          ran.work start at o.block_len all
          (subst (λ (y : St). StopsAs start at o.block_len all query (holds ran.session) (signs ran.session) (signs y)) (sym (ran-to ran))
          (subst (λ (x : St). StopsAs start at o.block_len all query (holds x) (signs x) (signs t)) (sym (ran-at ran)) stops)) stands
      | inr over ↦ subst (λ (j : Job S K St). IsWork start at o.block_len all query (work j)) (sym (is.stays over)) stands
    ]

  -- a query without a session has ended before
  pub stands_still : (start at : Seen) (all : List Query) (query : Query) (a b : Job S K St) → IsAnswered remaining reads contents writes holds signs query a b → IsWork start at o.block_len all query (work a) → a.session ≡ None
      → IsWork start at o.block_len all query (work b)
  stands_still start at all query a b is stands none = elim (either a.ended) [
    | inl on ↦ absurd (none-some (is.ran on).session (sym none ∙ (is.ran on).before))
    | inr over ↦ subst (λ (j : Job S K St). IsWork start at o.block_len all query (work j)) (sym (is.stays over)) stands
  ]
