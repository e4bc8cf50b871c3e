mod KeyRows
