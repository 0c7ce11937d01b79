use Rattle.std.proofs.Common.{◌≡◌, ◌++◌, map, length, take, drop, sym, ap, ◌∙◌}
use Rattle.std.proofs.lemmas.List.{length-map}
use Rattle.stats.specs.Trim.{trimmed}
use Rattle.sheet.proofs.Carried.{block_wide, written}
use Rattle.sheet.proofs.calls.add_node.Goals as goal

pub returns-clause-trims : goal.returns-clause-trims
returns-clause-trims g c m leaves =
    let s = c.split_at_mut-used.ensures in
    let i : c.write.new.arg2 ≡ m = leaves _ _ _ _ (ap (take c.args.node.width) s.back) s.front c.write.ensures in
    let t : c.trim_all.new.block ≡ map (trimmed c.args.node.rows) m = c.trim_all.ensures ∙ (λ k. map (trimmed (c.rows_to_trim.ensures k)) (i k)) in
    let l = c.write.auto.arg2 ∙ block_wide c.args.columns.now _ c.args.head.now.used c.args.node.width (ap (take c.args.node.width) s.back) c.requires.space in
    ap (λ b. c.split_at_mut-used.result.0.now ++ (b ++ drop c.args.node.width c.split_at_mut-used.result.1.now)) t ∙
    written c.args.columns.now _ _ (map (trimmed c.args.node.rows) m) c.args.head.now.used c.args.node.width s.value s.front_len (length-map m (trimmed c.args.node.rows) ∙ ap length (sym i) ∙ l) c.requires.space
