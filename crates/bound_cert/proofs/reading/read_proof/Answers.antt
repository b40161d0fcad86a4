use Rattle.bound_cert.proofs.ReadProof as lemmas
use Rattle.bound_cert.proofs.reading.read_proof.Goals as goal

pub returns-clause-of_tables : goal.returns-clause-of_tables
returns-clause-of_tables c = lemmas.of_tables c.args.tables.now c.args.bytes.now c.read.result c.read.ensures

pub returns-clause-exactly : goal.returns-clause-exactly
returns-clause-exactly c = lemmas.exactly c.args.tables.now c.args.bytes.now c.read.result c.read.ensures

pub returns-clause-complete : goal.returns-clause-complete
returns-clause-complete c = lemmas.complete c.args.tables.now c.args.bytes.now c.read.result c.read.ensures
