-- How a reading of a text goes on, line by line.
use Rattle.std.proofs.Common.{◌≡◌, ◌<◌, ◌≤◌, ◌+◌, ℕ, List, [], ◌∷◌, ◌++◌, length, codes, Option, Some, None, Bool, true, false, Result, Ok, Err, refl, ap, sym, ◌∙◌, subst, arith, append_assoc, inl, inr}
use Rattle.std.proofs.lemmas.List.{length-append, append-nil}
use Rattle.std.proofs.lemmas.Grind.{flat_map-append}
use Rattle.std.specs.Prelude.{IsOkUnless}
use Rattle.std.specs.List.{AllByRecursion}
use Rattle.pool_model.specs.declared.entry.Entry.{Entry}
use Rattle.pool_model.specs.declared.skeleton.Skeleton.{Skeleton}
use Rattle.pool_model.specs.State.{Opening}
use Rattle.pool_model.specs.Legal.{state_after}
use Rattle.pool_model.specs.Traces.{skeleton_of, skeletons, HasTrace, IsLegalTrace, CanFollow}
use Rattle.pool_model.proofs.Traces.{traces_grow, traces_fit, Ends, ends}
use Rattle.trace_follow.specs.declared.follower.Follower.{Follower}
use Rattle.trace_follow.specs.declared.opened.Opened.{Opened}
use Rattle.trace_check.specs.declared.check.Checked.{Checked}
use Rattle.trace_check.specs.declared.trace_err.TraceErr.{TraceErr}
use Rattle.trace_check.specs.declared.trace_err.TraceErr.TheVariants as why
use Rattle.std.specs.Fmt.{decimal}
use Rattle.trace_check.specs.Names.{spelled, name_of}
use Rattle.trace_check.specs.Numbers.{numbers_of}
use Rattle.trace_check.specs.Lines.{spaced, letter_of, line_of, lines_of, opening_line, last_line, told_of, InForm, IsTraceText}
use Rattle.trace_check.specs.Reading.{skeleton_at, opening_at, last_at}
use Rattle.trace_check.specs.Verdicts.{IsAccepted, Begins, BeginsLegal, FitsThroughout, LacksOpening, LacksLine, GoesWrong}
use Rattle.trace_check.specs.Underway.{IsVerdict, IsUnderway}
use Rattle.trace_follow.specs.Following.{OpensWith, StandsFor, Judges, Follows}
use Rattle.trace_check.proofs.LineLaws.{line_again, line_told, IsLine}
use Rattle.trace_check.proofs.OpeningLaws.{opening_again, opening_told, IsOpeningLine, last_again, last_told}
use Rattle.trace_check.proofs.VerdictLaws.{same_opening, has_opening, has_line, goes_right}

-- the trace of no entry
none_left : (o : Opening) (h : List Entry) → HasTrace o h [] → h ≡ []
none_left o [] has = refl
none_left o (e ∷ h) has = let not : skeleton_of e ∷ skeletons h ≡ [] = has.same in cc

shorter : (a b : List ℕ) (text : List ℕ) → text ≡ a ++ b → length b ≤ length text
shorter a b text is = omega (arith, ap length is, length-append a b)

-- opening data of which the text tells, with nothing else
abbrev bare_opening : Opened → Opening
bare_opening t = record { blocks = t.blocks; block_len = t.block_len; marked = false; first_name = t.first_name; slots = 0; faults = 0; stores = 0 }

-- the opening line was read
pub started : (text : List ℕ) (t : Opened) (rest : List ℕ) (v : Follower) → length text ≤ 268435456 → opening_at text ≡ Some (t, rest)
    → ((o : Opening) → OpensWith t o → StandsFor v o []) → IsUnderway text v 0 rest
started text t rest v small read stands =
    let line : IsOpeningLine text t rest = opening_told text t rest read in
    record {
      trace = [];
      begins = record { o = bare_opening t; begins = record { opening = line.form; each = tt; is = line.is }; legal = λ p b. ([], record { legal = tt; same = refl }) };
      stands = λ p h b has.
          let same : told_of p ≡ t = (same_opening text (told_of p) t rest rest b.opening line.form b.is line.is).0 in
          subst (λ (g : List Entry). StandsFor v p g) (sym (none_left p h has)) (stands p (record { blocks = ap (λ (x : Opened). x.blocks) same; block_len = ap (λ (x : Opened). x.block_len) same; first_name = ap (λ (x : Opened). x.first_name) same }));
      count = refl;
      fits = let some : length rest ≤ length text = shorter (opening_line t) rest text line.is in omega (arith, some);
      small = small;
    }

-- a line has a byte
one_letter : (writer : Bool) → length (letter_of writer) ≡ 1
one_letter true = refl
one_letter false = refl

some_line : (k : Skeleton) → 1 ≤ length (line_of k)
unfolding line_of
some_line k =
    let tail : List ℕ = decimal k.maker ++ (codes " " ++ (spelled (name_of k.event) ++ (spaced (numbers_of k.event) ++ codes "\n"))) in
    omega (arith, length-append (letter_of k.writer) tail, one_letter k.writer)

-- the lines so far and one more
lines_more : (front : List ℕ) (trace : List Skeleton) (k : Skeleton) (rest behind : List ℕ) → rest ≡ line_of k ++ behind → front ++ (lines_of trace ++ rest) ≡ front ++ (lines_of (trace ++ k ∷ []) ++ behind)
lines_more front trace k rest behind is =
    let lines : lines_of (trace ++ k ∷ []) ≡ lines_of trace ++ line_of k = flat_map-append line_of trace (k ∷ []) ∙ ap (λ (t : List ℕ). lines_of trace ++ t) (append-nil (line_of k)) in
    ap (λ (t : List ℕ). front ++ (lines_of trace ++ t)) is ∙ ap (λ (t : List ℕ). front ++ t) (sym (append_assoc (lines_of trace) (line_of k) behind) ∙ ap (λ (t : List ℕ). t ++ behind) (sym lines))

each_more : (trace : List Skeleton) (k : Skeleton) → AllByRecursion InForm trace → InForm k → AllByRecursion InForm (trace ++ k ∷ [])
each_more [] k each form = (form, tt)
each_more (j ∷ trace) k each form = (each.0, each_more trace k each.1 form)

-- before the line of the last entry the text began so too
before_line : (text : List ℕ) (p : Opening) (trace : List Skeleton) (k : Skeleton) (rest behind : List ℕ) → AllByRecursion InForm trace → rest ≡ line_of k ++ behind → Begins text p (trace ++ k ∷ []) behind → Begins text p trace rest
before_line text p trace k rest behind each is b = record { opening = b.opening; each = each; is = b.is ∙ sym (lines_more (opening_line (told_of p)) trace k rest behind is) }

-- a line was read, and its entry can follow
pub went_on : (text : List ℕ) (v w : Follower) (n : ℕ) (rest : List ℕ) (k : Skeleton) (behind : List ℕ) (may : Bool) → IsUnderway text v n rest → skeleton_at rest ≡ Some (k, behind)
    → may ≡ true → Judges v k may → Follows v w k → IsUnderway text w (n + 1) behind
went_on text v w n rest k behind may reading read is judges follows =
    let line : IsLine rest k behind = line_told rest k behind read in
    let trace : List Skeleton = reading.trace in
    let b : BeginsLegal text trace rest = reading.begins in
    let some : 1 ≤ length (line_of k) = some_line k in
    let was : n + length rest ≤ length text = reading.fits in
    let back : (p : Opening) → Begins text p (trace ++ k ∷ []) behind → Begins text p trace rest = λ p new. before_line text p trace k rest behind b.begins.each line.is new in
    record {
      trace = trace ++ k ∷ [];
      begins = record {
        o = b.o;
        begins = record {
          opening = b.begins.opening;
          each = each_more trace k b.begins.each line.form;
          is = b.begins.is ∙ lines_more (opening_line (told_of b.o)) trace k rest behind line.is;
        };
        legal = λ p new.
            let legal : IsLegalTrace p trace = b.legal p (back p new) in
            let can : CanFollow legal.0 (state_after p legal.0) k = (judges p legal.0 (reading.stands p legal.0 (back p new) legal.1)).0 is in
            (traces_grow p trace k).on legal.0 legal.1 can;
      };
      stands = λ p h new has.
          let e : Ends p trace k h = ends p trace k h has in
          subst (λ (g : List Entry). StandsFor w p g) (sym e.whole) (follows p e.before e.entry (reading.stands p e.before (back p new) e.has) e.same e.may);
      count = omega (arith, reading.count, length-append trace (k ∷ []));
      fits = omega (arith, was, some, ap length line.is, length-append (line_of k) behind);
      small = reading.small;
    }

-- a line was read, and its entry can't follow
pub went_wrong : (text : List ℕ) (v : Follower) (n : ℕ) (rest : List ℕ) (k : Skeleton) (behind : List ℕ) (may : Bool) → IsUnderway text v n rest → skeleton_at rest ≡ Some (k, behind)
    → may ≡ false → Judges v k may → GoesWrong text n
went_wrong text v n rest k behind may reading read is judges =
    let line : IsLine rest k behind = line_told rest k behind read in
    let trace : List Skeleton = reading.trace in
    record {
      trace = trace;
      k = k;
      rest = behind;
      begins = subst (λ (t : List ℕ). BeginsLegal text trace t) line.is reading.begins;
      form = line.form;
      number = reading.count;
      illegal = λ p begins legal.
          let before : (h : List Entry) × HasTrace p h trace × CanFollow h (state_after p h) k = (traces_grow p trace k).only legal in
          let same : Begins text p trace rest = subst (λ (t : List ℕ). Begins text p trace t) (sym line.is) begins in
          let judged : may ≡ true = (judges p before.0 (reading.stands p before.0 same before.1)).1 before.2 in cc (judged, is);
    }

-- no line was read
pub stopped : (text : List ℕ) (v : Follower) (n : ℕ) (rest : List ℕ) → IsUnderway text v n rest → skeleton_at rest ≡ None → last_at rest ≡ None → LacksLine text (n + 2)
stopped text v n rest reading none not_last = record {
  trace = reading.trace;
  rest = rest;
  begins = reading.begins;
  number = omega (arith, reading.count);
  no_entry = λ k more form is. let both : ◌≡◌ {A = Option (Skeleton × List ℕ)} None (Some (k, more)) = sym none ∙ ap skeleton_at is ∙ line_again k more form in cc;
  no_last = λ whole is. let both : ◌≡◌ {A = Option Bool} None (Some whole) = sym not_last ∙ ap last_at is ∙ last_again whole in cc;
}

-- a legal trace fits throughout
fits_throughout : (o : Opening) (trace : List Skeleton) → IsLegalTrace o trace → FitsThroughout o trace
fits_throughout o trace legal front more is = traces_fit o front more (subst (λ (t : List Skeleton). IsLegalTrace o t) (sym is) legal)

-- the last line was read
pub finished : (text : List ℕ) (v : Follower) (n : ℕ) (rest : List ℕ) (whole : Bool) → IsUnderway text v n rest → last_at rest ≡ Some whole → IsAccepted text (record { entries = n; whole = whole })
finished text v n rest whole reading last =
    let end : rest ≡ last_line whole = last_told rest whole last in
    let b : BeginsLegal text reading.trace rest = reading.begins in
    let legal : (p : Opening) → IsTraceText text p reading.trace whole → IsLegalTrace p reading.trace =
    λ p is. b.legal p (record { opening = is.opening; each = is.each; is = is.is ∙ ap (λ (t : List ℕ). opening_line (told_of p) ++ (lines_of reading.trace ++ t)) (sym end) }) in
    record {
      small = reading.small;
      o = b.o;
      trace = reading.trace;
      is = record { opening = b.begins.opening; each = b.begins.each; is = b.begins.is ∙ ap (λ (t : List ℕ). opening_line (told_of b.o) ++ (lines_of reading.trace ++ t)) end };
      count = reading.count;
      legal = legal;
      fits = λ p is. fits_throughout p reading.trace (legal p is);
    }

pub no_opening : (text : List ℕ) → opening_at text ≡ None → LacksOpening text 1
no_opening text none = record {
  first = refl;
  none = λ o rest form is. let both : ◌≡◌ {A = Option (Opened × List ℕ)} None (Some (o, rest)) = sym none ∙ ap opening_at is ∙ opening_again o rest form in cc;
}

-- an accepted text is refused for want of memory alone
pub accepted : (text : List ℕ) (r : Result Checked TraceErr) → IsVerdict text r → (o : Opening) (trace : List Skeleton) (whole : Bool) → length text ≤ 268435456 → IsTraceText text o trace whole → IsLegalTrace o trace → IsOkUnless r why.Memory
accepted text (Ok c) verdict o trace whole small is legal = tt
accepted text (Err why.Large) verdict o trace whole small is legal = absurd (omega (arith, verdict, small))
accepted text (Err (why.Syntax line)) (inl lacks) o trace whole small is legal = absurd (has_opening text o trace whole is line lacks)
accepted text (Err (why.Syntax line)) (inr lacks) o trace whole small is legal = absurd (has_line text o trace whole is line lacks)
accepted text (Err (why.Illegal entry)) verdict o trace whole small is legal = absurd (goes_right text o trace whole is legal entry verdict)
accepted text (Err why.Memory) verdict o trace whole small is legal = refl

-- a line that was read is shorter, and entries are counted within the text
pub line_shorter : (bs : List ℕ) (k : Skeleton) (behind : List ℕ) → skeleton_at bs ≡ Some (k, behind) → length behind < length bs
line_shorter bs k behind read =
    let line : IsLine bs k behind = line_told bs k behind read in
    omega (arith, some_line k, ap length line.is, length-append (line_of k) behind)

pub few_entries : (text : List ℕ) (v : Follower) (n : ℕ) (rest : List ℕ) → IsUnderway text v n rest → n ≤ 268435456
few_entries text v n rest reading = let fits : n + length rest ≤ length text = reading.fits in omega (arith, fits, reading.small)
