use Rattle.std.proofs.Common.{◌∙◌, map, string_bytes}
use Rattle.clap.specs.Words.{app_of, kind_of, subcommand_rows_of}
use Rattle.spill_top.proofs.Verdicts.{refused_request, taken_request}
use Rattle.spill_top.proofs.words.parse.Goals as goal

pub returns-in-Ok : goal.returns-in-Ok
returns-in-Ok c =
    taken_request (app_of c.in_ok-parser.field-0) (map string_bytes c.args.words.now) (subcommand_rows_of c.in-Ok.matches) c.in_ok-parser.ensures c.requires c.in-Ok.ensures.kinds
    (λ simple. (c.in-Ok.ensures.matches simple).1)

pub returns : goal.returns
returns c =
    refused_request (app_of c.in_ok-parser.field-0) (map string_bytes c.args.words.now) (kind_of c.in-Err.e) c.in_ok-parser.ensures c.requires c.in-Err.ensures.kinds
    (λ memory. c.in_default.not-OutOfMemory (c.kind.ensures ∙ memory))
