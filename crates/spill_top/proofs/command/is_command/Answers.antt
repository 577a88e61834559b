use Rattle.std.proofs.Common.{◌≡◌, ◌∙◌, ◌<◌, inl, inr, [], ap, codes, get_or, length, map, string_bytes, sym, rules, arith}
use Rattle.std.specs.Str.{bytes_eq}
use Rattle.std.proofs.lemmas.List.{get_or-map, length-map}
use Rattle.spill_top.proofs.CheckWords.{five_check, five_other, five_tell, not_five}
use Rattle.spill_top.proofs.Counts.{not_three, not_two, three_other, two_other, two_run}
use Rattle.spill_top.proofs.command.is_command.Goals as goal

pub returns-in-len2-clause-yes : goal.returns-in-len2-clause-yes
returns-in-len2-clause-yes c = λ is.
    let len = length-map c.args.words.now string_bytes in
    let as_many : length (map string_bytes c.args.words.now) ≡ 2 = omega (arith, len, c.in-len2.len_at_least, c.in-len2.len_below) in
    let some : 0 < length c.args.words.now = omega (arith, len, as_many) in
    let item = get_or-map string_bytes c.args.words.now 0 c.verb-item.result [] some ∙ ap string_bytes (sym c.verb-item.is) in
    let verb : bytes_eq (codes "run") (get_or (map string_bytes c.args.words.now) 0 []) ≡ c.eq.result = rw item (search rules) in
    inr (inl (two_run (map string_bytes c.args.words.now) as_many (search rules) (verb ∙ is)))

pub returns-in-len2-clause-count : goal.returns-in-len2-clause-count
returns-in-len2-clause-count c = λ is.
    let len = length-map c.args.words.now string_bytes in
    let as_many : length (map string_bytes c.args.words.now) ≡ 2 = omega (arith, len, c.in-len2.len_at_least, c.in-len2.len_below) in
    not_three (map string_bytes c.args.words.now) (λ three. omega (arith, three, as_many))

pub returns-in-len2-clause-run : goal.returns-in-len2-clause-run
returns-in-len2-clause-run c = λ is.
    let len = length-map c.args.words.now string_bytes in
    let as_many : length (map string_bytes c.args.words.now) ≡ 2 = omega (arith, len, c.in-len2.len_at_least, c.in-len2.len_below) in
    let some : 0 < length c.args.words.now = omega (arith, len, as_many) in
    let item = get_or-map string_bytes c.args.words.now 0 c.verb-item.result [] some ∙ ap string_bytes (sym c.verb-item.is) in
    let verb : bytes_eq (codes "run") (get_or (map string_bytes c.args.words.now) 0 []) ≡ c.eq.result = rw item (search rules) in
    two_other (map string_bytes c.args.words.now) as_many (verb ∙ is)

pub returns-in-len3-clause-count : goal.returns-in-len3-clause-count
returns-in-len3-clause-count c = λ is.
    let len = length-map c.args.words.now string_bytes in
    let as_many : length (map string_bytes c.args.words.now) ≡ 3 = omega (arith, len, c.in-len3.len_at_least, c.in-len3.len_below) in
    let some : 0 < length c.args.words.now = omega (arith, len, as_many) in
    let item = get_or-map string_bytes c.args.words.now 0 c.verb-item-then-words-lt4.result [] some ∙ ap string_bytes (sym c.verb-item-then-words-lt4.is) in
    let verb : bytes_eq (codes "count") (get_or (map string_bytes c.args.words.now) 0 []) ≡ c.eq-in-len3.result = rw item (search rules) in
    three_other (map string_bytes c.args.words.now) as_many (verb ∙ is)

pub returns-in-len3-clause-run : goal.returns-in-len3-clause-run
returns-in-len3-clause-run c = λ is.
    let len = length-map c.args.words.now string_bytes in
    let as_many : length (map string_bytes c.args.words.now) ≡ 3 = omega (arith, len, c.in-len3.len_at_least, c.in-len3.len_below) in
    not_two (map string_bytes c.args.words.now) (λ two. omega (arith, two, as_many))

pub returns-in_default-clause-count : goal.returns-in_default-clause-count
returns-in_default-clause-count c = λ is.
    not_three (map string_bytes c.args.words.now) (λ three. let len = length-map c.args.words.now string_bytes in omega (arith, len, three, c.in_default.len_below))

pub returns-in_default-clause-run : goal.returns-in_default-clause-run
returns-in_default-clause-run c = λ is.
    not_two (map string_bytes c.args.words.now) (λ two. let len = length-map c.args.words.now string_bytes in omega (arith, len, two, c.in_default.len_below))

pub returns-in_default-2-clause-count : goal.returns-in_default-2-clause-count
returns-in_default-2-clause-count c = λ is.
    not_three (map string_bytes c.args.words.now) (λ three. let len = length-map c.args.words.now string_bytes in omega (arith, len, three, c.in_default.len_at_least))

pub returns-in_default-2-clause-run : goal.returns-in_default-2-clause-run
returns-in_default-2-clause-run c = λ is.
    not_two (map string_bytes c.args.words.now) (λ two. let len = length-map c.args.words.now string_bytes in omega (arith, len, two, c.in_default.len_at_least))

pub returns-in-len2-clause-check : goal.returns-in-len2-clause-check
returns-in-len2-clause-check c = λ is.
    let len = length-map c.args.words.now string_bytes in
    not_five (map string_bytes c.args.words.now) (λ five. omega (arith, len, five, c.in-len2.len_at_least, c.in-len2.len_below))

pub returns-in-len3-clause-check : goal.returns-in-len3-clause-check
returns-in-len3-clause-check c = λ is.
    let len = length-map c.args.words.now string_bytes in
    not_five (map string_bytes c.args.words.now) (λ five. omega (arith, len, five, c.in-len3.len_at_least, c.in-len3.len_below))

pub returns-in_default-clause-check : goal.returns-in_default-clause-check
returns-in_default-clause-check c = λ is.
    not_five (map string_bytes c.args.words.now) (λ five. let len = length-map c.args.words.now string_bytes in omega (arith, len, five, c.in_default.len_below))

pub returns-in_default-2-clause-check : goal.returns-in_default-2-clause-check
returns-in_default-2-clause-check c = λ is.
    not_five (map string_bytes c.args.words.now) (λ five. let len = length-map c.args.words.now string_bytes in omega (arith, len, five, c.in_default.len_below))

pub returns-in_default-3-clause-count : goal.returns-in_default-3-clause-count
returns-in_default-3-clause-count c = λ is.
    not_three (map string_bytes c.args.words.now) (λ three. let len = length-map c.args.words.now string_bytes in omega (arith, len, three, c.in_default.len_at_least))

pub returns-in_default-3-clause-run : goal.returns-in_default-3-clause-run
returns-in_default-3-clause-run c = λ is.
    not_two (map string_bytes c.args.words.now) (λ two. let len = length-map c.args.words.now string_bytes in omega (arith, len, two, c.in_default.len_at_least))

pub returns-in_default-3-clause-check : goal.returns-in_default-3-clause-check
returns-in_default-3-clause-check c = λ is.
    not_five (map string_bytes c.args.words.now) (λ five. let len = length-map c.args.words.now string_bytes in omega (arith, len, five, c.in_default.len_at_least))

-- what is told of five words
tell : (c : goal.After-is_check) → five_tell (map string_bytes c.args.words.now) ≡ c.is_check.result
tell c =
    let long = c.in-len5.len_at_least in
    let verb = get_or-map string_bytes c.args.words.now 0 c.verb-item-then-words-lt6.result [] (omega (arith, long)) ∙ ap string_bytes (sym c.verb-item-then-words-lt6.is) in
    let start = get_or-map string_bytes c.args.words.now 1 c.start-item.result [] (omega (arith, long)) ∙ ap string_bytes (sym c.start-item.is) in
    let rows = get_or-map string_bytes c.args.words.now 2 c.rows-item.result [] (omega (arith, long)) ∙ ap string_bytes (sym c.rows-item.is) in
    let groups = get_or-map string_bytes c.args.words.now 3 c.groups-item.result [] (omega (arith, long)) ∙ ap string_bytes (sym c.groups-item.is) in
    let blocks = get_or-map string_bytes c.args.words.now 4 c.blocks-item.result [] (omega (arith, long)) ∙ ap string_bytes (sym c.blocks-item.is) in
    rw (verb, start, rows, groups, blocks) (search rules)

pub returns-in-len5-clause-yes : goal.returns-in-len5-clause-yes
returns-in-len5-clause-yes c = λ is.
    let len = length-map c.args.words.now string_bytes in
    let as_many : length (map string_bytes c.args.words.now) ≡ 5 = omega (arith, len, c.in-len5.len_at_least, c.in-len5.len_below) in
    inr (inr (five_check (map string_bytes c.args.words.now) as_many (search rules) (tell c ∙ is)))

pub returns-in-len5-clause-count : goal.returns-in-len5-clause-count
returns-in-len5-clause-count c = λ is.
    not_three (map string_bytes c.args.words.now) (λ three. let len = length-map c.args.words.now string_bytes in omega (arith, len, three, c.in-len5.len_at_least))

pub returns-in-len5-clause-run : goal.returns-in-len5-clause-run
returns-in-len5-clause-run c = λ is.
    not_two (map string_bytes c.args.words.now) (λ two. let len = length-map c.args.words.now string_bytes in omega (arith, len, two, c.in-len5.len_at_least))

pub returns-in-len5-clause-check : goal.returns-in-len5-clause-check
returns-in-len5-clause-check c = λ is.
    let len = length-map c.args.words.now string_bytes in
    let as_many : length (map string_bytes c.args.words.now) ≡ 5 = omega (arith, len, c.in-len5.len_at_least, c.in-len5.len_below) in
    five_other (map string_bytes c.args.words.now) as_many (tell c ∙ is)
