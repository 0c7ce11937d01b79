use Rattle.sheet.specs.Sheets.{sheet_of}
use Rattle.sheet.specs.Steps.{no_figure}
use Rattle.sheet.proofs.LeastNumber.{read_least}
use Rattle.sheet.proofs.LawsHold.{laws_over_runs_lem}
use Rattle.sheet.proofs.Head.read.Goals as goal

pub returns : goal.returns
returns g c =
    let s = sheet_of c.args.self.now c.args.nodes.now c.args.columns.now in
    record {
      value = c.read_on.ensures;
      least = read_least g.K.Key.relation no_figure s c.args.n _ c.read_on.ensures;
      keeps = λ estimate shares mirrors. record { reached = λ r. r; laws = laws_over_runs_lem g.K.Key.relation estimate shares mirrors s };
    }
