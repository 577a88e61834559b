use Rattle.pool_model.proofs.Traces.{histories_have_traces, traces_skip_nothing, trace_fronts, traces_grow, traces_fit}
use Rattle.pool_model.proofs.trace_laws.law_traces.Goals as goal

pub returns-clause-legal : goal.returns-clause-legal
returns-clause-legal c = histories_have_traces

pub returns-clause-whole : goal.returns-clause-whole
returns-clause-whole c = traces_skip_nothing

pub returns-clause-fronts : goal.returns-clause-fronts
returns-clause-fronts c = trace_fronts

pub returns-clause-grows : goal.returns-clause-grows
returns-clause-grows c = traces_grow

pub returns-clause-fits : goal.returns-clause-fits
returns-clause-fits c = traces_fit
