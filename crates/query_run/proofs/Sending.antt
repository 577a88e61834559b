-- A text that goes out a part at a time.
use Rattle.std.proofs.Common.{◌≡◌, ◌∙◌, ◌++◌, ℕ, List, [], Option, Some, None, length, take, drop, sym, ap, refl, subst, arith}
use Rattle.std.specs.Io.KnownBytes.{Appends}
use Rattle.std.proofs.lemmas.List.{append_assoc, append-nil, length-append, take-append-drop}
use Rattle.std.proofs.Math.Seq.{take-append_seam}
use Rattle.csv_edge.specs.Written.{AppendsFront}
use Rattle.query_run.specs.Parts.{FrontOf, HasSent}

appends_none : (now : Option (List ℕ)) → Appends now now []
appends_none None = tt
appends_none (Some bytes) = sym (append-nil bytes)

appends_on : (a b c : Option (List ℕ)) (x y : List ℕ) → Appends a b x → Appends b c y → Appends a c (x ++ y)
appends_on None b c x y first then = tt
appends_on (Some xs) None c x y first then = absurd first
appends_on (Some xs) (Some ys) None x y first then = absurd then
appends_on (Some xs) (Some ys) (Some zs) x y first then = then ∙ (ap (λ l. l ++ y) first ∙ append_assoc xs x y)

-- ---- what is left

pub begun : (now : Option (List ℕ)) (text : List ℕ) → HasSent now now text text
begun now text = record { sent = []; written = appends_none now; whole = refl }

pub sent_on : (start a b : Option (List ℕ)) (left text piece rest : List ℕ) → HasSent start a left text → Appends a b piece → left ≡ piece ++ rest → HasSent start b rest text
sent_on start a b left text piece rest has appends split = record {
  sent = has.sent ++ piece;
  written = appends_on start a b has.sent piece has.written appends;
  whole = append_assoc has.sent piece rest ∙ (ap (λ l. has.sent ++ l) (sym split) ∙ has.whole);
}

pub sent_all : (start a b : Option (List ℕ)) (left text : List ℕ) → HasSent start a left text → Appends a b left → HasSent start b [] text
sent_all start a b left text has appends = sent_on start a b left text left [] has appends (sym (append-nil left))

pub pushed : (start now : Option (List ℕ)) (left text line : List ℕ) → HasSent start now left text → HasSent start now (left ++ line) (text ++ line)
pushed start now left text line has = record {
  sent = has.sent;
  written = has.written;
  whole = sym (append_assoc has.sent left line) ∙ ap (λ l. l ++ line) has.whole;
}

pub appended : (start now : Option (List ℕ)) (text : List ℕ) → HasSent start now [] text → Appends start now text
appended start now text has = subst (Appends start now) (sym (append-nil has.sent) ∙ has.whole) has.written

-- ---- fronts

pub front_none : (now : Option (List ℕ)) (text : List ℕ) → FrontOf now now text
front_none now text = record { sent = []; rest = text; written = appends_none now; whole = refl }

pub front_all : (start now : Option (List ℕ)) (text : List ℕ) → Appends start now text → FrontOf start now text
front_all start now text appends = record { sent = text; rest = []; written = appends; whole = append-nil text }

pub front_of : (start now : Option (List ℕ)) (text : List ℕ) → AppendsFront start now text → FrontOf start now text
front_of start now text front = record { sent = take front.0 text; rest = drop front.0 text; written = front.2; whole = take-append-drop front.0 text }

pub appends_front : (start now : Option (List ℕ)) (text : List ℕ) → FrontOf start now text → AppendsFront start now text
appends_front start now text front =
    let size = length-append front.sent front.rest in
    let all = ap length front.whole in
    let is : take (length front.sent) text ≡ front.sent = ap (take (length front.sent)) (sym front.whole) ∙ take-append_seam front.sent front.rest in
    (length front.sent, omega (arith, size, all), rw is front.written)

pub front_left : (start now : Option (List ℕ)) (left text : List ℕ) → HasSent start now left text → FrontOf start now text
front_left start now left text has = record { sent = has.sent; rest = left; written = has.written; whole = has.whole }

-- a front of what is left, and nothing of what comes behind it
pub front_on : (start a b : Option (List ℕ)) (left text more : List ℕ) → HasSent start a left text → FrontOf a b left → FrontOf start b (text ++ more)
front_on start a b left text more has front = record {
  sent = has.sent ++ front.sent;
  rest = front.rest ++ more;
  written = appends_on start a b has.sent front.sent has.written front.written;
  whole =
      append_assoc has.sent front.sent (front.rest ++ more)
      ∙ (ap (λ l. has.sent ++ l) (sym (append_assoc front.sent front.rest more) ∙ ap (λ l. l ++ more) front.whole)
      ∙ (sym (append_assoc has.sent left more) ∙ ap (λ l. l ++ more) has.whole));
}

-- a front of a piece of what is left
pub front_within : (start a b : Option (List ℕ)) (left text piece rest : List ℕ) → HasSent start a left text → AppendsFront a b piece → left ≡ piece ++ rest → FrontOf start b text
front_within start a b left text piece rest has appends split =
    let front = front_of a b piece appends in
    let longer : FrontOf a b left = record {
      sent = front.sent;
      rest = front.rest ++ rest;
      written = front.written;
      whole = sym (append_assoc front.sent front.rest rest) ∙ (ap (λ l. l ++ rest) front.whole ∙ sym split);
    } in
    subst (FrontOf start b) (append-nil text) (front_on start a b left text [] has longer)
