-- An emitter that feeds its rows to a grouping asks nothing of its store but what is its client's. Laws of emitters cite this.
use Rattle.std.specs.Prelude.{◌≡◌, ◌↔◌, ℕ, suc, ◌+◌, ◌*◌, ◌≤◌, ◌==◌, Bool, true, false, List, [], ◌∷◌, length, slice_get, sum_by, if◌then◌else◌, Option, Some, None, refl}
use Rattle.std.proofs.Common.{◌∙◌, inl, inr, ap, sym, subst, arith, zero-le, eqb-true}
use Rattle.std.proofs.lemmas.Bool.{cases_Bool}
use Rattle.std.proofs.lemmas.List.Sums.{sum_by-cons}
use Rattle.std.proofs.Math.Nat.{mul-le-mul_right}
use Rattle.row_codec.specs.declared.values.Value.{Value}
use Rattle.store_api.specs.Emitters.{SameOwn}
use Rattle.store_api.specs.Holdings.{Holdings, LivePage, no_page, or_else, page_of}
use Rattle.store_api.specs.OwnLaws.{still_idle}
use Rattle.store_api.specs.Tokens.{ClientToken, PageToken}
use Rattle.store_api.specs.declared.shapes.Shape.{Shape}
use Rattle.tuple_stream.specs.Streamed.{Streamed}
use Rattle.partition_stack.proofs.Left.{same_then}
use Rattle.join_op.proofs.Sums.{sum_alike}
use Rattle.partition_stack.specs.Slots.{most_pages}
use Rattle.group_op.specs.Making.{pages_on}
use Rattle.group_op.specs.Operator.{Operator, bytes_for}
use Rattle.query_run.specs.Feeder.{Feeds, TookOf, own_slots, slots_for_rows, slots_in}
use Rattle.query_run.specs.declared.feeder.Feeder.{Feeder}

-- ---- the slots of a page

abbrev slots_if : ℕ → ℕ → Option LivePage → ℕ
slots_if t blocks o = if (or_else no_page o).client == t then (if (or_else no_page o).has_slots then blocks else 0) else 0

none_there : (t blocks : ℕ) → slots_if t blocks None ≡ 0
none_there t blocks = elim (cases_Bool (0 == t)) [ inl is ↦ rw is refl | inr not ↦ rw not refl ]

other's : (t blocks : ℕ) (page : LivePage) → (page.client == t) ≡ false → slots_if t blocks (Some page) ≡ 0
other's t blocks page not = rw not refl

slots-alike : (t blocks : ℕ) (o n : Option LivePage) → ((page : LivePage) → page.client ≡ t → (n ≡ Some page) ↔ (o ≡ Some page)) → slots_if t blocks n ≡ slots_if t blocks o
slots-alike t blocks None None same = refl
slots-alike t blocks (Some a) n same = elim (cases_Bool (a.client == t)) [
  | inl is ↦ ap (slots_if t blocks) ((same a (eqb-true a.client t is)).1 refl)
  | inr not ↦ here n same not
] where
  here : (n : Option LivePage) → ((page : LivePage) → page.client ≡ t → (n ≡ Some page) ↔ (Some a ≡ Some page)) → (a.client == t) ≡ false → slots_if t blocks n ≡ slots_if t blocks (Some a)
  here None same not = none_there t blocks ∙ sym (other's t blocks a not)
  here (Some b) same not = elim (cases_Bool (b.client == t)) [
    | inl is ↦ ap (slots_if t blocks) (sym ((same b (eqb-true b.client t is)).0 refl))
    | inr other ↦ other's t blocks b other ∙ sym (other's t blocks a not)
  ]
slots-alike t blocks None (Some b) same = elim (cases_Bool (b.client == t)) [
  | inl is ↦ ap (slots_if t blocks) (sym ((same b (eqb-true b.client t is)).0 refl))
  | inr not ↦ other's t blocks b not ∙ sym (none_there t blocks)
]

module _ (t : ℕ) (old new : Holdings) (same : SameOwn (Some t) old new) where
  -- the slots of its pages are as many
  pub slots_same : (op : Option Operator) → slots_in op t new ≡ slots_in op t old
  slots_same None = refl
  slots_same (Some op) =
      sum_alike (λ s. _) (λ s. _) op.parts.streams
      (λ (s : Streamed). sum_alike (own_slots t s new) (own_slots t s old) s.pages
      (λ (p : PageToken). slots-alike t s.page_blocks (old.pages p.name) (new.pages p.name) (λ page own. (same.own t refl).pages p.name page own)))

alike_then : (t : ℕ) (a b d : Holdings) → SameOwn (Some t) a b → SameOwn (Some t) b d → SameOwn (Some t) a d
alike_then t a b d first next = record {
  block_len = next.block_len ∙ first.block_len;
  told = next.told ∙ first.told;
  own = λ u is. same_then u a b d (first.own u is) (next.own u is);
}

-- what it took it took over any store in which its client has the same
pub took_same : (op : Option Operator) (back : Option ClientToken) (c : ClientToken) (shape : Shape) (blocks : ℕ) (e : Feeder) (old new : Holdings) (rows : List (List Value))
    → SameOwn (Some c.tracker) old new → TookOf op back c shape blocks e old rows → TookOf op back c shape blocks e new rows
took_same (Some op) None c shape blocks e old new rows same took = record {
  client = took.client;
  shape_is = took.shape_is;
  blocks_are = took.blocks_are;
  feeding = took.feeding;
  formed = took.formed;
  counted = took.counted;
  extra = took.extra;
  page = took.page ∙ sym (ap (λ (n : ℕ). blocks * n) same.block_len);
  short = took.short;
  at = took.at;
  signs = took.signs;
  alike = alike_then c.tracker took.at old new took.alike same;
  is = took.is;
  holds = took.holds;
  stack = took.stack;
  few = took.few;
}
took_same None (Some back) c shape blocks e old new rows same took =
    let stopped = took.0 in
    let own : SameOwn (Some back.tracker) old new = subst (λ (b : ClientToken). SameOwn (Some b.tracker) old new) (sym stopped.same) same in (
      record {
        same = stopped.same;
        lives = rw (own.own back.tracker refl).account (stopped.lives);
        idle = still_idle back.tracker old new own stopped.idle;
      },
      took.1,
    )
took_same (Some op) (Some back) c shape blocks e old new rows same took = absurd took
took_same None None c shape blocks e old new rows same took = absurd took

-- ---- how many slots its pages have

own_one : (blocks : ℕ) (mine has : Bool) → (n : ℕ) × (n ≤ 1) × ((if mine then (if has then blocks else 0) else 0) ≡ n * blocks)
own_one blocks true true = (1, omega arith, omega arith)
own_one blocks true false = (0, omega arith, omega arith)
own_one blocks false has = (0, omega arith, omega arith)

own_pages : (t : ℕ) (s : Streamed) (h : Holdings) (pages : List PageToken) → (n : ℕ) × (n ≤ length pages) × (sum_by (own_slots t s h) pages ≡ n * s.page_blocks)
own_pages t s h [] = (0, omega arith, omega arith)
own_pages t s h (p ∷ pages) =
    let rest = own_pages t s h pages in
    let one = own_one s.page_blocks ((page_of p.name h).client == t) (page_of p.name h).has_slots in
    let first : own_slots t s h p ≡ one.0 * s.page_blocks = one.2 in
    let few = one.1 in
    let fewer = rest.1 in
    let more = rest.2 in
    let sum : sum_by (own_slots t s h) (p ∷ pages) ≡ own_slots t s h p + sum_by (own_slots t s h) pages = sum_by-cons (own_slots t s h) p pages in
    let both : (one.0 + rest.0) * s.page_blocks ≡ one.0 * s.page_blocks + rest.0 * s.page_blocks = omega arith in
    (one.0 + rest.0, omega (arith, few, fewer), omega (arith, first, more, sum, both))

own_all : (t blocks : ℕ) (h : Holdings) (streams : List Streamed) → ((i : ℕ) (s : Streamed) → slice_get streams i ≡ Some s → s.page_blocks ≡ blocks)
    → (n : ℕ) × (n ≤ sum_by (λ s. length s.pages) streams) × (sum_by (λ s. sum_by (own_slots t s h) s.pages) streams ≡ n * blocks)
own_all t blocks h [] sized = (0, omega arith, omega arith)
own_all t blocks h (s ∷ streams) sized =
    let rest = own_all t blocks h streams (λ i r there. sized (suc i) r there) in
    let one = own_pages t s h s.pages in
    let few = one.1 in
    let fewer = rest.1 in
    let first : sum_by (own_slots t s h) s.pages ≡ one.0 * blocks = one.2 ∙ ap (λ (n : ℕ). one.0 * n) (sized 0 s refl) in
    let more = rest.2 in
    let pages : sum_by (λ s. length s.pages) (s ∷ streams) ≡ length s.pages + sum_by (λ s. length s.pages) streams = sum_by-cons (λ (s : Streamed). length s.pages) s streams in
    let slots : sum_by (λ s. sum_by (own_slots t s h) s.pages) (s ∷ streams) ≡ sum_by (own_slots t s h) s.pages + sum_by (λ s. sum_by (own_slots t s h) s.pages) streams = sum_by-cons (λ (s : Streamed). sum_by (own_slots t s h) s.pages) s streams in
    let both : (one.0 + rest.0) * blocks ≡ one.0 * blocks + rest.0 * blocks = omega arith in
    (one.0 + rest.0, omega (arith, few, fewer, pages), omega (arith, first, more, slots, both))

-- those of each page are its blocks, or none
module _ (c : ClientToken) (shape : Shape) (blocks : ℕ) (op : Operator) (e : Feeder) (h : Holdings) (rows : List (List Value)) (feeds : Feeds c shape blocks op e h rows) where
  pub pages_own : (n : ℕ) × (n ≤ pages_on op) × (slots_in (Some op) c.tracker h ≡ n * blocks)
  pages_own = own_all c.tracker blocks h op.parts.streams (λ i s there. feeds.stack.each i s there ∙ feeds.blocks_are)

-- they are few for the rows that it took
pub slots_few : (op : Option Operator) (back : Option ClientToken) (c : ClientToken) (shape : Shape) (blocks : ℕ) (e : Feeder) (h : Holdings) (rows : List (List Value)) → TookOf op back c shape blocks e h rows
    → slots_in op c.tracker h ≤ slots_for_rows shape blocks e.page rows
slots_few (Some op) None c shape blocks e h rows took =
    let own = pages_own c shape blocks op e h rows took in
    let few = own.1 in
    let are = own.2 in
    let most = took.few in
    let wide : own.0 * blocks ≤ slots_for_rows shape blocks e.page rows = mul-le-mul_right blocks (let less : own.0 ≤ most_pages e.page 16 (length rows) (bytes_for shape rows) + 1 = omega (arith, few, most) in less) in
    omega (arith, are, wide)
slots_few None back c shape blocks e h rows took = zero-le
slots_few (Some op) (Some back) c shape blocks e h rows took = absurd took

-- and those of some pages
pub slots_whole : (op : Option Operator) (back : Option ClientToken) (c : ClientToken) (shape : Shape) (blocks : ℕ) (e : Feeder) (h : Holdings) (rows : List (List Value)) → TookOf op back c shape blocks e h rows
    → (pages : ℕ) × (slots_in op c.tracker h ≡ pages * blocks)
slots_whole (Some op) None c shape blocks e h rows took = let own = pages_own c shape blocks op e h rows took in (own.0, own.2)
slots_whole None back c shape blocks e h rows took = (0, omega arith)
slots_whole (Some op) (Some back) c shape blocks e h rows took = absurd took
