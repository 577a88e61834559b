-- One text has one reading, so what refuses a text is no part of an accepted one.
use Rattle.std.proofs.Common.{◌≡◌, ℕ, List, [], ◌∷◌, ◌++◌, Option, Some, None, Bool, refl, ap, sym, ◌∙◌, subst, append_assoc}
use Rattle.std.specs.List.{AllByRecursion}
use Rattle.pool_model.specs.declared.skeleton.Skeleton.{Skeleton}
use Rattle.pool_model.specs.State.{Opening}
use Rattle.trace_follow.specs.declared.opened.Opened.{Opened}
use Rattle.pool_model.specs.Traces.{IsLegalTrace}
use Rattle.pool_model.proofs.Traces.{trace_fronts}
use Rattle.trace_check.specs.Lines.{line_of, lines_of, opening_line, last_line, told_of, InForm, IsOpened, IsTraceText}
use Rattle.trace_check.specs.Reading.{skeleton_at, opening_at}
use Rattle.trace_check.specs.Verdicts.{Begins, BeginsLegal, LacksOpening, LacksLine, GoesWrong}
use Rattle.trace_check.proofs.Numerals.{same_first, same_second}
use Rattle.trace_check.proofs.LineLaws.{line_again}
use Rattle.trace_check.proofs.OpeningLaws.{opening_again, no_entry_last}

-- one line in front, and one rest
pub record SameLine (j k : Skeleton) (a b : List ℕ) : Type 0 where
  pub line : j ≡ k
  pub rest : a ≡ b

pub same_line : (j k : Skeleton) (a b : List ℕ) → InForm j → InForm k → line_of j ++ a ≡ line_of k ++ b → SameLine j k a b
same_line j k a b form_j form_k is =
    let both : Some (j, a) ≡ Some (k, b) = sym (line_again j a form_j) ∙ ap skeleton_at is ∙ line_again k b form_k in
    record { line = same_first (j, a) (k, b) both; rest = same_second (j, a) (k, b) both }

-- the last line doesn't begin as an entry's
pub last_apart : (whole : Bool) (k : Skeleton) (more : List ℕ) → InForm k → last_line whole ≡ line_of k ++ more → ⊥
last_apart whole k more form is =
    let both : ◌≡◌ {A = Option (Skeleton × List ℕ)} None (Some (k, more)) = sym (no_entry_last whole) ∙ ap skeleton_at is ∙ line_again k more form in cc

-- the entries of a shorter reading are the first of the longer
pub record Goes (all some : List Skeleton) (whole : Bool) (rest : List ℕ) : Type 0 where
  pub more : List Skeleton
  pub is : all ≡ some ++ more
  pub each : AllByRecursion InForm more
  pub rest_is : rest ≡ lines_of more ++ last_line whole

pub goes : (all some : List Skeleton) (whole : Bool) (rest : List ℕ) → AllByRecursion InForm all → AllByRecursion InForm some → lines_of all ++ last_line whole ≡ lines_of some ++ rest → Goes all some whole rest
goes all [] whole rest each_all each_some is = record { more = all; is = refl; each = each_all; rest_is = sym is }
goes [] (k ∷ some) whole rest each_all each_some is =
    absurd (last_apart whole k (lines_of some ++ rest) each_some.0 (is ∙ append_assoc (line_of k) (lines_of some) rest))
goes (j ∷ all) (k ∷ some) whole rest each_all each_some is =
    let same : SameLine j k (lines_of all ++ last_line whole) (lines_of some ++ rest) =
    same_line j k (lines_of all ++ last_line whole) (lines_of some ++ rest) each_all.0 each_some.0 (sym (append_assoc (line_of j) (lines_of all) (last_line whole)) ∙ is ∙ append_assoc (line_of k) (lines_of some) rest) in
    let g : Goes all some whole rest = goes all some whole rest each_all.1 each_some.1 same.rest in
    record { more = g.more; is = ap (λ (t : List Skeleton). j ∷ t) g.is ∙ ap (λ (i : Skeleton). i ∷ (some ++ g.more)) same.line; each = g.each; rest_is = g.rest_is }

-- the opening data that a text tells
pub same_opening : (text : List ℕ) (a b : Opened) (more rest : List ℕ) → IsOpened a → IsOpened b → text ≡ opening_line a ++ more → text ≡ opening_line b ++ rest → (a ≡ b) × (more ≡ rest)
same_opening text a b more rest form_a form_b is_a is_b =
    let both : Some (a, more) ≡ Some (b, rest) = sym (opening_again a more form_a) ∙ ap opening_at (sym is_a ∙ is_b) ∙ opening_again b rest form_b in
    (same_first (a, more) (b, rest) both, same_second (a, more) (b, rest) both)

-- two readings of one text: the opening data are one, and the entries go on from the shorter
module _ (text : List ℕ) (o : Opening) (trace : List Skeleton) (whole : Bool) (whole_text : IsTraceText text o trace whole) where
  -- the shorter reading is one of these opening data too
  pub record Aligned (some : List Skeleton) (rest : List ℕ) : Type 0 where
    pub begins : Begins text o some rest
    pub goes_on : Goes trace some whole rest

  pub aligned : (some : List Skeleton) (rest : List ℕ) → BeginsLegal text some rest → Aligned some rest
  aligned some rest b =
      let same : (told_of b.o ≡ told_of o) × (lines_of some ++ rest ≡ lines_of trace ++ last_line whole) =
      same_opening text (told_of b.o) (told_of o) (lines_of some ++ rest) (lines_of trace ++ last_line whole) b.begins.opening whole_text.opening b.begins.is whole_text.is in
      record {
        begins = record { opening = whole_text.opening; each = b.begins.each; is = whole_text.is ∙ ap (λ (t : List ℕ). opening_line (told_of o) ++ t) (sym same.1) };
        goes_on = goes trace some whole rest whole_text.each b.begins.each (sym same.1);
      }

  pub has_opening : (line : ℕ) → LacksOpening text line → ⊥
  has_opening line lacks = lacks.none (told_of o) (lines_of trace ++ last_line whole) whole_text.opening whole_text.is

  no_line_lacks : (more : List Skeleton) (rest : List ℕ) → AllByRecursion InForm more → rest ≡ lines_of more ++ last_line whole
      → ((k : Skeleton) (behind : List ℕ) → InForm k → rest ≡ line_of k ++ behind → ⊥) → ((w : Bool) → rest ≡ last_line w → ⊥) → ⊥
  no_line_lacks [] rest each is no_entry no_last = no_last whole is
  no_line_lacks (k ∷ more) rest each is no_entry no_last = no_entry k (lines_of more ++ last_line whole) each.0 (is ∙ append_assoc (line_of k) (lines_of more) (last_line whole))

  pub has_line : (line : ℕ) → LacksLine text line → ⊥
  has_line line lacks =
      let a : Aligned lacks.trace lacks.rest = aligned lacks.trace lacks.rest lacks.begins in
      no_line_lacks a.goes_on.more lacks.rest a.goes_on.each a.goes_on.rest_is lacks.no_entry lacks.no_last

  -- the next entry of the longer reading is this one
  next_is : (some more : List Skeleton) (k : Skeleton) (rest : List ℕ) → trace ≡ some ++ more → AllByRecursion InForm more → InForm k → line_of k ++ rest ≡ lines_of more ++ last_line whole
      → (behind : List Skeleton) × (trace ≡ (some ++ k ∷ []) ++ behind)
  next_is some [] k rest is each form same = absurd (last_apart whole k rest form (sym same))
  next_is some (j ∷ more) k rest is each form same =
      let s : SameLine k j rest (lines_of more ++ last_line whole) = same_line k j rest (lines_of more ++ last_line whole) form each.0 (same ∙ append_assoc (line_of j) (lines_of more) (last_line whole)) in
      (more, is ∙ ap (λ (i : Skeleton). some ++ i ∷ more) (sym s.line) ∙ sym (append_assoc some (k ∷ []) more))

  pub goes_right : IsLegalTrace o trace → (entry : ℕ) → GoesWrong text entry → ⊥
  goes_right legal entry wrong =
      let a : Aligned wrong.trace (line_of wrong.k ++ wrong.rest) = aligned wrong.trace (line_of wrong.k ++ wrong.rest) wrong.begins in
      let next : (behind : List Skeleton) × (trace ≡ (wrong.trace ++ wrong.k ∷ []) ++ behind) = next_is wrong.trace a.goes_on.more wrong.k wrong.rest a.goes_on.is a.goes_on.each wrong.form a.goes_on.rest_is in
      wrong.illegal o a.begins (trace_fronts o (wrong.trace ++ wrong.k ∷ []) next.0 (subst (λ (t : List Skeleton). IsLegalTrace o t) next.1 legal))
