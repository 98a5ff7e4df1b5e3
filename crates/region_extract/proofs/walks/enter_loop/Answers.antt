use Rattle.std.proofs.Common.{◌∙◌, ap}
use Rattle.c_lexer.specs.Pieces.{bytes_of}
use Rattle.clan_rows.specs.Contents.{said}
use Rattle.clan_walk.specs.Walk.{entered_loop}
use Rattle.c_parser.specs.declared.tree.Loop.{out-Loop}
use Rattle.region_extract.proofs.Reading.{on_ok}
use Rattle.region_extract.proofs.walks.enter_loop.Goals as goal

pub returns : goal.returns
returns c =
    let layer = said c.in_ok-layer.layer in
    on_ok c.enter_loop.result
    (λ p. record {
      layer = layer;
      is_layer = c.in_ok-layer.ensures;
      entered =
          p ∙ ap (λ n. entered_loop n c.direction.result layer c.args.place.now) (c.in_ok-name.ensures ∙ c.piece_bytes.ensures)
          ∙ ap (λ d. entered_loop (bytes_of c.args.source.now (out-Loop c.args.head.now).name) d layer c.args.place.now) c.direction.ensures;
    })
    c.enter_loop.ensures
