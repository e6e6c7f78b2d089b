use Rattle.program_source.proofs.Once.{last_one, reads_one, terms_one, types_one}
use Rattle.program_source.proofs.laws.sources_end_once.Goals as goal

pub returns : goal.returns
returns c = record { read = reads_one c.one_list_of_tokens.ensures; types = types_one; terms = terms_one c.scripts_end_once.ensures; last = last_one }
